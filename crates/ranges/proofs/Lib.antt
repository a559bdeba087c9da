pub mod ScoreCode
