pub mod Models
