-- Bytes as text: what the lines, words and numbers of a script are, and how the lines of an answer are written.
pub mod Bytes
pub mod Lines
pub mod Numbers
pub mod Printing
