pub mod RoundedSum
