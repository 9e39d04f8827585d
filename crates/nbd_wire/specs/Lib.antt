pub mod Numbers
pub mod Commands
pub mod Requests
pub mod Replies
pub mod Options
pub mod Answers
