-- The spread form of words that stand right packs to them, and a list that is scanned through is the spread form of its words. Assumes nothing.
use Rattle.std.specs.Prelude.{◌≡◌, Bool, cond, List, [], ◌∷◌, ◌++◌, ℕ, zero, suc, ◌+◌, ◌≤◌, ◌<◌, length, take, Ok}
use Rattle.std.proofs.Math.Path.{refl, ap}
use Rattle.std.proofs.Common.{sym, ap₂, ◌∙◌, arith, add-zero, lit<, take-append-drop, get_or-take, take_at}
use Rattle.std.proofs.Math.Bool.{true, false}
use Rattle.std.proofs.Math.Dec.{eqb, leb}
use Rattle.std.proofs.Math.ListN.{get_or, drop, length-append, get_or-append}
use Rattle.std.proofs.Math.Seq.{drop_at}
use borrow.Author.Tests.{eqb-true, le-leb}
use Rattle.model.specs.declared.Kind.{Kind}
use Rattle.model.specs.declared.Kind.TheVariants.{Var, Con, Clause, Goal}
use Rattle.model.specs.Fields.{widths_of, kept_fields, total, below, field, op}
use Rattle.model.specs.Encoding.{Words}
use Rattle.model.specs.Spread.{spread_fields, spread_word, packed_word, group_size, kind_of_op, kind_at, unpacked_from, further, judged, op_known, judged_group, scan_from, packed_from}
use Rattle.spread.specs.GroupLaws.{fit-judged, fit_length, join-group}
use Rattle.spread.specs.WordLaws.{packed_lt, spread-packed, packed-spread, spread_word-fits}
use Rattle.spread.specs.ScanLaws.{size-at, kind_of, scan_step, packed_step, opened, enough}
use Rattle.spread.specs.ImageLaws.{Stands, Stand, none, more}

pub spread-size : (kind : Kind) (word : ℕ) → length (spread_word kind word) ≡ group_size kind
unfolding group_size
spread-size kind word = fit_length (widths_of kind) (kept_fields kind) (spread_word kind word) (spread_word-fits kind word)

-- where the kind goes by op, the group's first value is the op
op-first : (value word : ℕ) → get_or (spread_word (kind_of_op value) word) 0 0 ≡ op word
unfolding kind_of_op spread_word spread_fields kept_fields widths_of field below total
op-first value word = go (eqb value 1) (eqb value 2) (eqb value 8)
  where
    go : (variable? constant? clause? : Bool) → get_or (spread_word (cond variable? Var (cond constant? Con (cond clause? Clause Goal))) word) 0 0 ≡ op word
    go true c k = refl
    go false true k = refl
    go false false true = refl
    go false false false = refl

module _ (count number value word : ℕ) where
  abbrev first : ℕ
  first = get_or (spread_word (kind_at count number value) word) 0 0

  -- so a word and its group name one kind
  record Named : Type 0 where
    kind : kind_at count number first ≡ kind_at count number (op word)
    known : op_known count number first ≡ op_known count number (op word)

  named : Named
  unfolding kind_at op_known
  named = go (eqb number 0) refl (leb number count) refl
    where
      go : (first? : Bool) → eqb number 0 ≡ first? → (declared? : Bool) → leb number count ≡ declared? → Named
      go true q declared? r = record { kind = rw q refl; known = rw (le-leb number count (omega (arith, eqb-true number 0 q))) refl }
      go false q true r = record { kind = rw (q, r) refl; known = rw r refl }
      go false q false r =
          let e : first ≡ op word = rw (q, r) (op-first value word) in
          record { kind = ap (kind_at count number) e; known = ap (op_known count number) e }

-- a list that begins with the group of a word that stands right
module _ (count number word : ℕ) (rest : List ℕ) where
  abbrev kind : Kind
  kind = kind_at count number (op word)

  abbrev list : List ℕ
  list = spread_word kind word ++ rest

  record Begins : Type 0 where
    some : 0 < length list
    is : kind_of count number list ≡ kind
    judges : (at : ℕ) → judged_group count number at list ≡ Ok (at + group_size kind)
    drops : drop (group_size (kind_of count number list)) list ≡ rest
    packs : packed_word (kind_of count number list) list ≡ word

  begins : word < 4294967296 → Stands count number word → Begins
  unfolding judged_group group_size packed_word
  begins small stands =
      let long = spread-size kind word in
      let f : get_or list 0 0 ≡ first count number (op word) word = get_or-append (spread_word kind word) rest 0 0 (omega (arith, long, (size-at count number (op word)).least)) in
      let n = named count number (op word) word in
      let k : kind_of count number list ≡ kind = ap (kind_at count number) f ∙ n.kind in
      let o : op_known count number (get_or list 0 0) ≡ true = ap (op_known count number) f ∙ n.known ∙ stands.known in
      record {
        some = omega (arith, long, length-append (spread_word kind word) rest, (size-at count number (op word)).least);
        is = k;
        judges = λ at. rw o (ap (λ (which : Kind). judged (widths_of which) (kept_fields which) at list) k
            ∙ fit-judged (widths_of kind) (kept_fields kind) (spread_word kind word) rest at (spread_word-fits kind word));
        drops = ap (λ (which : Kind). drop (group_size which) list) k ∙ drop_at (spread_word kind word) rest (group_size kind) long;
        packs = ap (λ (which : Kind). packed_word which list) k ∙ join-group (widths_of kind) (kept_fields kind) list
            ∙ ap (packed_word kind) (take_at (spread_word kind word) rest (group_size kind) long) ∙ packed-spread kind word small stands.zero;
      }

-- spreading words that stand right, then scanning
pub scan-unpacked : (most count number at : ℕ) (words : List ℕ) → Stand count number words → length (unpacked_from count number words) ≤ most
    → scan_from most count number at (unpacked_from count number words) ≡ Ok (number + length words)
unfolding unpacked_from scan_from
scan-unpacked zero count number at [] none l = ap Ok (sym (add-zero number))
scan-unpacked (suc most) count number at [] none l = ap Ok (sym (add-zero number))
scan-unpacked zero count number at (word ∷ words) (more h s t) l =
    let b = begins count number word (unpacked_from count (suc number) words) h s in
    absurd (omega (arith, b.some))
scan-unpacked (suc most) count number at (word ∷ words) (more h s t) l =
    let rest = unpacked_from count (suc number) words in
    let whole = list count number word rest in
    let b = begins count number word rest h s in
    let e = enough count number most whole b.some l in
    let n : suc number + length words ≡ number + length (word ∷ words) = omega arith in
    scan_step count number at whole most b.some
    ∙ ap (further (λ next. scan_from most count (suc number) next (drop (group_size (kind_of count number whole)) whole))) (b.judges at)
    ∙ ap (scan_from most count (suc number) (at + group_size (kind count number word rest))) b.drops
    ∙ scan-unpacked most count (suc number) (at + group_size (kind count number word rest)) words t (rw b.drops at e)
    ∙ ap Ok n

-- .. and packing
pub packed-unpacked : (most count number : ℕ) (words : List ℕ) → Stand count number words → length (unpacked_from count number words) ≤ most
    → packed_from most count number (unpacked_from count number words) ≡ words
unfolding unpacked_from packed_from
packed-unpacked zero count number [] none l = refl
packed-unpacked (suc most) count number [] none l = refl
packed-unpacked zero count number (word ∷ words) (more h s t) l =
    let b = begins count number word (unpacked_from count (suc number) words) h s in
    absurd (omega (arith, b.some))
packed-unpacked (suc most) count number (word ∷ words) (more h s t) l =
    let rest = unpacked_from count (suc number) words in
    let whole = list count number word rest in
    let b = begins count number word rest h s in
    let e = enough count number most whole b.some l in
    packed_step count number 0 whole most b.some
    ∙ ap₂ (λ (first : ℕ) (others : List ℕ). first ∷ packed_from most count (suc number) others) b.packs b.drops
    ∙ ap (λ (others : List ℕ). word ∷ others) (packed-unpacked most count (suc number) words t (rw b.drops at e))

-- the words of a list that is scanned through: below 2^32, and the list is their spread form
pub record Spreads (most count number : ℕ) (rest : List ℕ) : Type 0 where
  pub small : Words (packed_from most count number rest)
  pub whole : unpacked_from count number (packed_from most count number rest) ≡ rest

words-cons : (word : ℕ) (words : List ℕ) → word < 4294967296 → Words words → Words (word ∷ words)
words-cons word words h w zero = h
words-cons word words h w (suc i) = w i

words-none : Words []
words-none zero = lit< tt
words-none (suc i) = lit< tt

pub unpacked-packed : (most count number at end : ℕ) (rest : List ℕ) → length rest ≤ most → scan_from most count number at rest ≡ Ok end → Spreads most count number rest
unfolding unpacked_from packed_from packed_word group_size
unpacked-packed zero count number at end [] l e = record { small = words-none; whole = refl }
unpacked-packed zero count number at end (value ∷ rest) l e = absurd (omega arith)
unpacked-packed (suc most) count number at end [] l e = record { small = words-none; whole = refl }
unpacked-packed (suc most) count number at end (value ∷ rest) l e =
    let here = kind_at count number value in
    let o = opened count number at (value ∷ rest) most end (omega arith) e in
    let fit = o.group.values.fit in
    let values = take (group_size here) (value ∷ rest) in
    let others = drop (group_size here) (value ∷ rest) in
    let word = packed_word here (value ∷ rest) in
    let j : word ≡ packed_word here values = join-group (widths_of here) (kept_fields here) (value ∷ rest) in
    let s : spread_word here word ≡ values = ap (spread_word here) j ∙ spread-packed here values fit in
    let f : first count number value word ≡ value = ap (λ (group : List ℕ). get_or group 0 0) s ∙ get_or-take (group_size here) (value ∷ rest) 0 0 (size-at count number value).least in
    let k : kind_at count number (op word) ≡ here = sym (named count number value word).kind ∙ ap (kind_at count number) f in
    let r = unpacked-packed most count (suc number) o.end end others (enough count number most (value ∷ rest) (omega arith) l) o.others in
    record {
      small = words-cons word (packed_from most count (suc number) others) (rw j (packed_lt here values fit)) r.small;
      whole = ap₂ (λ (which : Kind) (left : List ℕ). spread_word which word ++ left) k r.whole ∙ ap (λ (group : List ℕ). group ++ others) s
          ∙ take-append-drop (group_size here) (value ∷ rest);
    }
