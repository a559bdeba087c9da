pub mod DecodingLaws
