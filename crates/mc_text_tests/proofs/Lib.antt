-- What is known of the values of tests.
pub mod Example
