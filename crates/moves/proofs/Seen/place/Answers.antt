-- `moves::Seen::place` meets its contract. Assumes nothing.
use Rattle.std.proofs.Common.{◌≡◌, ◌∙◌, sym, ap, ℕ, ◌≤◌, ◌<◌, Option, unwrap_or, length, take, rules, tests, arith, length-take-le}
use Rattle.std.proofs.lemmas.Iterator.{IsFirst-from_position, YieldsList-from_slice}
use Rattle.std.proofs.lemmas.Option.{MatchOption-at_some}
use Rattle.std.specs.Option.{MatchOption}
use Rattle.std.specs.List.{AllWithin, HoldsAt}
use Rattle.model.specs.Moves.{place_of}
use Rattle.moves.proofs.ReadLaws.{same, other, place-found, seen-before, seen-new}
use Rattle.moves.proofs.Seen.place.Goals.{After-position}
use Rattle.moves.proofs.Seen.place.Goals as goal

-- what the search among the numbers seen found
searched : (c : After-position) → let s = c.args.self.now in let seen = take s.count s.numbers in let n = c.args.number in
    MatchOption c.position.result (AllWithin (other n) seen 0 (length seen)) (λ place. (place < length seen) × HoldsAt (same n) seen place × AllWithin (other n) seen 0 place)
searched c = let s = c.args.self.now in
    IsFirst-from_position _ _ _ (same c.args.number) (other c.args.number) c.position.ensures.ran (YieldsList-from_slice (take s.count s.numbers) cc) (λ x q k. search (rules, tests)) (λ x q k. search (rules, tests))

placed : (c : After-position) → let s = c.args.self.now in place_of (take s.count s.numbers) c.args.number ≡ unwrap_or c.position.result s.count
placed c = let s = c.args.self.now in
    let fits : s.count ≤ length s.numbers = omega arith in
    place-found c.args.number (take s.count s.numbers) _ (searched c) ∙ ap (unwrap_or c.position.result) (length-take-le s.count s.numbers fits)

pub returns-in-Some-clause-place : goal.returns-in-Some-clause-place
returns-in-Some-clause-place c = sym (placed (goal.at.returns-in-Some-clause-place c).After-position ∙ ap (λ (found : Option ℕ). unwrap_or found c.args.self.now.count) c.in-Some.is)

pub returns-in-Some-clause-seen : goal.returns-in-Some-clause-seen
returns-in-Some-clause-seen c = let s = c.args.self.now in
    let at = (goal.at.returns-in-Some-clause-seen c).After-position in
    let place = placed at ∙ ap (λ (found : Option ℕ). unwrap_or found s.count) c.in-Some.is in
    let below = (MatchOption-at_some _ _ _ c.in-Some.is (searched at)).0 in
    seen-before c.args.number (take s.count s.numbers) (omega (arith, place, below))

pub returns-clause-place : goal.returns-clause-place
returns-clause-place c = sym (placed (goal.at.returns-clause-place c).After-position ∙ ap (λ (found : Option ℕ). unwrap_or found c.args.self.now.count) c.in_default.is)

pub returns-clause-seen : goal.returns-clause-seen
returns-clause-seen c = let s = c.args.self.now in
    let fits : s.count < length s.numbers = omega arith in
    let place = placed (goal.at.returns-clause-seen c).After-position ∙ ap (λ (found : Option ℕ). unwrap_or found s.count) c.in_default.is in
    seen-new c.args.number s.numbers s.count fits (omega (arith, place, length-take-le s.count s.numbers (omega arith)))
