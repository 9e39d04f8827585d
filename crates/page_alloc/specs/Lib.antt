pub mod CleanPage
