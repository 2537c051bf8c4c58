pub mod Tank
