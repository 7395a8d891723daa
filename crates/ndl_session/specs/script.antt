-- The grammar: what the words of a line spell, and the script that an input spells.
pub mod DataLine
pub mod Elements
pub mod Lists
pub mod Reading
pub mod Script
pub mod StepLine
