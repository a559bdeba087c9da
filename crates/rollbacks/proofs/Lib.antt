-- The promise is `rollbacks` of Back. How it goes: a command is answered by the bytes from its offset on (Later), an accepted one by its own bytes alone (OwnBytes); so the stream without
-- what stood between goes the same way up to 50, and from there on as the whole one goes after 51 (Back), for 51 brings back what 50 left (Kept).
pub mod Later
pub mod OwnBytes
pub mod Accepted
pub mod Kept
pub mod Back
-- the pins
pub mod Computed
