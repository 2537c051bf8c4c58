mod Chunks
mod Built
