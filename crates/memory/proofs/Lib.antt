-- blocks in a buffer
mod Fours
-- blocks by a log
mod Records
