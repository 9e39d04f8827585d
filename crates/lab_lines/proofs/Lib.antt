pub mod FirstLines
mod ZipfRows
