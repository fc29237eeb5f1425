pub mod Marks
pub mod Rows
pub mod WordsAgree
pub mod PassesAgree
pub mod PortView
pub mod ThreadCalls
