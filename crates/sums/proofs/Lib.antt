-- The one theorem on the scope's worked lines: it rests on every line.
pub mod Table
