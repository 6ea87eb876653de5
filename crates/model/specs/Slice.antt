-- Slices that a host lends.
use Rattle.std.specs.Prelude.{ℕ, ◌+◌, List, ◌++◌, length, take, drop}

-- a slice with these at its front; beyond them it keeps what it had
abbrev pub over : List ℕ → List ℕ → List ℕ
over front slice = front ++ drop (length front) slice

-- a slice with these in the place of as many from index a on
abbrev pub write : List ℕ → ℕ → List ℕ → List ℕ
write slice a these = take a slice ++ these ++ drop (a + length these) slice
