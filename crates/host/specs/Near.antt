-- A verdict whose position fits below its number in one word of 64 bits. Assumes nothing.
use Rattle.std.specs.Prelude.{◌≤◌, Ok, Err}
use Rattle.model.specs.Answers.{Verdict}

unfoldable pub Near : Verdict → Type 0
Near (Ok u) = Unit {0}
Near (Err stop) = stop.1 ≤ 131072
