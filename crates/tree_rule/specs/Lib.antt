-- Wrong leaves of decision trees, by a rule on patterns.
pub mod Rule
