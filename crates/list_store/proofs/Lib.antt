mod Entries
mod Listed
