-- Laws of the program.
mod Parts
