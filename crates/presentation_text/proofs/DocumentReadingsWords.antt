-- What is known where nothing stands against the word of a line.
use Rattle.std.proofs.Common.{◌≡◌, ℕ, Bool, true, false, not, ◌&&◌, ◌||◌, nat_lt, if◌then◌else◌, List, [], ◌∷◌, codes, Option, Some, None, refl}
use Rattle.std.specs.Option.{is_some}
use Rattle.presentation_text.specs.LineReadings.{Contents, is, is_inside_tail, is_missing, is_out_of_order, is_unknown, section_of, word_fault}
use Rattle.presentation_text.specs.Readings.{first_row}
use Rattle.presentation_text.specs.declared.kinds.DocKind.{DocKind}
use Rattle.presentation_text.proofs.Names.{other_name, same_name}

-- none of four rows holds
pub no_row : (a b c d : Bool) (i j k l : DocKind) → first_row ((a, i) ∷ (b, j) ∷ (c, k) ∷ (d, l) ∷ []) ≡ None → (a ≡ false) × (b ≡ false) × (c ≡ false) × (d ≡ false)
no_row true b c d i j k l e = absurd cc
no_row false true c d i j k l e = absurd cc
no_row false false true d i j k l e = absurd cc
no_row false false false true i j k l e = absurd cc
no_row false false false false i j k l e = (refl, refl, refl, refl)

or_first : (a b : Bool) → (a || b) ≡ false → a ≡ false
or_first true b e = absurd cc
or_first false b e = refl

or_middle : (a b c : Bool) → (a || b || c) ≡ false → b ≡ false
or_middle true b c e = absurd cc
or_middle false true c e = absurd cc
or_middle false false c e = refl

is_none : {X : Type 0} (found : Option X) → is_some found ≡ false → found ≡ None
is_none None e = refl
is_none (Some x) e = absurd cc

not_both : (a b : Bool) → a ≡ true → (a && b) ≡ false → b ≡ false
not_both true b e f = f
not_both false b e f = absurd cc

stands : (a b : Bool) → b ≡ false → (not a && not b) ≡ false → a ≡ true
stands true b e f = refl
stands false true e f = absurd cc
stands false false e f = absurd cc

both_stand : (a b c d : Bool) → c ≡ false → d ≡ false → ((not a && not d) || (a && not b && not c && not d)) ≡ false → (a ≡ true) × (b ≡ true)
both_stand true true c d e f g = (refl, refl)
both_stand true false true d e f g = absurd cc
both_stand true false false true e f g = absurd cc
both_stand true false false false e f g = absurd cc
both_stand false b c true e f g = absurd cc
both_stand false b c false e f g = absurd cc

-- the word isn't missed, and is not out of order
nothing_against : (contents : Contents) (w : List ℕ) → word_fault contents w ≡ None → (is_missing contents w ≡ false) × (is_out_of_order contents w ≡ false)
unfolding word_fault
nothing_against contents w e =
    let rows = no_row (is_unknown contents.version w) (is_missing contents w) (is_out_of_order contents w) (is_inside_tail w) _ _ _ _ e in
    (rows.1, rows.2)

-- a `field` line is the first one
pub first_field : (contents : Contents) (w : List ℕ) → word_fault contents w ≡ None → w ≡ codes "field" → contents.field ≡ None
first_field contents w e f =
    let order = (nothing_against contents w e).1 in
    is_none contents.field (not_both (is w (codes "field")) (is_some contents.field) (same_name w (codes "field") f)
    (or_middle (nat_lt 0 (section_of contents.version w) && nat_lt (section_of contents.version w) contents.section) (is w (codes "field") && is_some contents.field) (is w (codes "order") && is_some contents.order) order))

-- before any other line a field stands
pub field_before : (contents : Contents) (w : List ℕ) → word_fault contents w ≡ None → (w ≡ codes "field" → ⊥) → is_some contents.field ≡ true
field_before contents w e other =
    let missing = (nothing_against contents w e).0 in
    stands (is_some contents.field) (is w (codes "field")) (other_name w (codes "field") other)
    (or_first (not (is_some contents.field) && not (is w (codes "field"))) (is_some contents.field && not (is_some contents.order) && not (is w (codes "order")) && not (is w (codes "field"))) missing)

late_section : (a b : Bool) (section : ℕ) → (if a then 2 else (if b then 3 else section)) ≡ 7 → (a ≡ false) × (b ≡ false)
late_section true b section e = absurd cc
late_section false true section e = absurd cc
late_section false false section e = (refl, refl)

-- before a tail a field and an order stand
pub both_before : (contents : Contents) (w : List ℕ) → word_fault contents w ≡ None → section_of contents.version w ≡ 7 → (is_some contents.field ≡ true) × (is_some contents.order ≡ true)
both_before contents w e section =
    let missing = (nothing_against contents w e).0 in
    let other = late_section (is w (codes "field")) (is w (codes "order")) _ section in
    both_stand (is_some contents.field) (is_some contents.order) (is w (codes "order")) (is w (codes "field")) other.1 other.0 missing
