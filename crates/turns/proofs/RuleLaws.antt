-- Rules 5 to 7 by the tests that lead to each. Document 01, "The steps". Assumes nothing.
use Rattle.std.proofs.Common.{◌≡◌, refl, Bool, true, false, List, ℕ}
use Rattle.model.specs.declared.Outcome.TheVariants.{Wait, Full}
use Rattle.model.specs.Steps.{View, stepped, lowest_free, take_clause, live_rule}

module _ (waits full : Bool) (image query : List ℕ) (v : View) (worker node : ℕ) where
  pub live_rule-wait : waits ≡ true → stepped Wait v ≡ live_rule waits full image query v worker node
  unfolding live_rule
  live_rule-wait c = rw (c, live_rule) refl

  pub live_rule-full : waits ≡ false → full ≡ true → stepped Full v ≡ live_rule waits full image query v worker node
  unfolding live_rule
  live_rule-full c f = rw (c, f, live_rule) refl

  pub live_rule-take : waits ≡ false → full ≡ false → take_clause image query v worker node (lowest_free v.nodes) ≡ live_rule waits full image query v worker node
  unfolding live_rule
  live_rule-take c f = rw (c, f, live_rule) refl
