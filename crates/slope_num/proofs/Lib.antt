pub mod WholePowers
