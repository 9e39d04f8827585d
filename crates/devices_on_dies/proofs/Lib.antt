mod Mounted
mod Writes
