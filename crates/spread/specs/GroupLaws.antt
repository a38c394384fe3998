-- One group: what its judgement says of its values. Document 01, "19 list ends inside a word's group", "18 a value too wide". Assumes nothing.
use Rattle.std.specs.Prelude.{◌≡◌, refl, Bool, true, false, cond, List, [], ◌∷◌, ◌++◌, ℕ, suc, ◌+◌, ◌*◌, ◌^◌, ◌≤◌, ltb, length, get_or, take, Ok, Err}
use Rattle.std.proofs.Common.{sym, ap, subst, ◌∙◌, arith, add-zero, ltb-true, lt-ltb}
use Rattle.model.specs.declared.Kind.{Kind}
use Rattle.model.specs.declared.Refusal.{Refusal}
use Rattle.model.specs.declared.Refusal.TheVariants.{TooWide}
use Rattle.model.specs.Answers.{Scan, refused_at}
use Rattle.model.specs.Fields.{widths_of, kept_fields, below}
use Rattle.model.specs.Spread.{join_fields, judged}
use Rattle.words.specs.FieldLaws.{Fit}

abbrev IsStopped : Scan → Type 0
IsStopped (Ok at) = ⊥
IsStopped (Err stop) = Unit {0}

pub not_through : {refusal : Refusal} {at end : ℕ} → ◌≡◌ {A = Scan} (refused_at refusal at) (Ok end) → ⊥
not_through e = subst IsStopped e tt

abbrev place_of : Scan → ℕ
place_of (Ok at) = at
place_of (Err stop) = stop.1

pub through_same : {at end : ℕ} → ◌≡◌ {A = Scan} (Ok at) (Ok end) → at ≡ end
through_same e = ap place_of e

-- the widths of a group's fields
unfoldable pub kept_widths : List ℕ → List ℕ → List ℕ
kept_widths widths [] = []
kept_widths widths (i ∷ kept) = get_or widths i 0 ∷ kept_widths widths kept

abbrev pub GroupFits : Kind → List ℕ → Type 0
GroupFits kind values = Fit (kept_widths (widths_of kind) (kept_fields kind)) values

-- a group that is judged through fits, and the list goes as far
pub record Judged (widths kept : List ℕ) (at end : ℕ) (rest : List ℕ) : Type 0 where
  pub ends : end ≡ at + length kept
  pub long : length kept ≤ length rest
  pub fit : Fit (kept_widths widths kept) (take (length kept) rest)

pub judged-through : (widths kept : List ℕ) (at end : ℕ) (rest : List ℕ) → judged widths kept at rest ≡ Ok end → Judged widths kept at end rest
unfolding judged kept_widths
judged-through widths [] at end rest e = record { ends = sym (through_same e) ∙ sym (add-zero at); long = omega arith; fit = tt }
judged-through widths (i ∷ kept) at end [] e = absurd (not_through e)
judged-through widths (i ∷ kept) at end (value ∷ rest) e = go (ltb value (2 ^ get_or widths i 0)) refl (judged-through widths kept (suc at) end rest) e
  where
    go : (fits? : Bool) → ltb value (2 ^ get_or widths i 0) ≡ fits? → (judged widths kept (suc at) rest ≡ Ok end → Judged widths kept (suc at) end rest)
        → cond fits? (judged widths kept (suc at) rest) (refused_at TooWide at) ≡ Ok end → Judged widths (i ∷ kept) at end (value ∷ rest)
    go true q others f =
        let j = others f in
        record { ends = omega (arith, j.ends); long = omega (arith, j.long); fit = (ltb-true value (2 ^ get_or widths i 0) q, j.fit) }
    go false q others f = absurd (not_through f)

-- a group that fits is judged through
pub fit-judged : (widths kept values rest : List ℕ) (at : ℕ) → Fit (kept_widths widths kept) values → judged widths kept at (values ++ rest) ≡ Ok (at + length kept)
unfolding judged kept_widths
fit-judged widths [] [] rest at fit = ap Ok (sym (add-zero at))
fit-judged widths [] (value ∷ values) rest at fit = absurd fit
fit-judged widths (i ∷ kept) [] rest at fit = absurd fit
fit-judged widths (i ∷ kept) (value ∷ values) rest at fit =
    let s : suc at + length kept ≡ at + length (i ∷ kept) = omega arith in
    rw (lt-ltb value (2 ^ get_or widths i 0) fit.0) (fit-judged widths kept values rest (suc at) fit.1 ∙ ap Ok s)

-- a group is as long as its fields are many
pub fit_length : (widths kept values : List ℕ) → Fit (kept_widths widths kept) values → length values ≡ length kept
unfolding kept_widths
fit_length widths [] [] fit = refl
fit_length widths [] (value ∷ values) fit = absurd fit
fit_length widths (i ∷ kept) [] fit = absurd fit
fit_length widths (i ∷ kept) (value ∷ values) fit = ap suc (fit_length widths kept values fit.1)

-- only the group's values are joined
pub join-group : (widths kept rest : List ℕ) → join_fields widths kept rest ≡ join_fields widths kept (take (length kept) rest)
unfolding join_fields
join-group widths [] rest = refl
join-group widths (i ∷ kept) [] = refl
join-group widths (i ∷ kept) (value ∷ rest) = ap (λ (low : ℕ). value * 2 ^ below widths i + low) (join-group widths kept rest)
