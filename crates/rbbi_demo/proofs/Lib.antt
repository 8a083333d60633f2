mod Drawing
mod Editing
mod Counting
mod Summing
mod Demonstrating
