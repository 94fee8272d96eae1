-- Steps of the sorted spelling.
use Rattle.std.proofs.Common.{◌≡◌, ℕ, zero, suc, ◌+◌, ◌%◌, ◌≤◌, List, ◌∷◌, ◌++◌, length, map, take, drop, refl, ap, ap₂, sym, ◌∙◌, arith, append_assoc, length-take, length-drop}
use Rattle.std.specs.List.{take-map, drop-map}
use Rattle.std.proofs.lemmas.List.{drop-drop}
use Rattle.std.proofs.lemmas.Slice.{take-put_mid, drop-put_mid}
use borrow.Rule.Slice.PartMut.{put_mid}
use Rattle.operad_ideals.specs.Parts.{Part, Sign, plus, minus, times, sign_of}
use Rattle.operad_ideals.specs.Sorting.{sort_part, part_sign, sort_parts, parts_sign}
use Rattle.operad_ideals.proofs.Signs.{times_assoc, times-inverse}
use Rattle.operad_ideals.proofs.SortedParts.{length-sort_part}

-- ---- signs

pub sign_of-even : (n : ℕ) → n % 2 ≡ 0 → sign_of n ≡ plus
sign_of-even zero h = refl
sign_of-even (suc zero) h = absurd (omega arith)
sign_of-even (suc (suc n)) h = times-inverse minus (sign_of n) ∙ sign_of-even n (omega arith)

pub sign_of-odd : (n : ℕ) → n % 2 ≡ 1 → sign_of n ≡ minus
sign_of-odd zero h = absurd (omega arith)
sign_of-odd (suc zero) h = refl
sign_of-odd (suc (suc n)) h = times-inverse minus (sign_of n) ∙ sign_of-odd n (omega arith)

-- ---- sorting one part after another

pub length-taken : {X : Type 0} (k n : ℕ) (xs : List X) → k ≡ n → n ≤ length xs → length (take k xs) ≡ n
length-taken k n xs e l = let m = length-take k xs in omega (arith, m, e, l)

-- what a list keeps behind what was rewritten
pub rest-more : {X : Type 0} (cur old new : List X) (from n k : ℕ) → k ≡ n → from + n ≤ length cur → length new ≡ n → drop from cur ≡ drop from old
    → drop (from + n) (put_mid from k cur new) ≡ drop (from + n) old
rest-more cur old new from n k e fits len same =
    drop-put_mid from k cur new (from + n) (omega (arith, e)) (omega (arith, fits)) (len ∙ sym e)
    ∙ sym (drop-drop n from cur) ∙ ap (drop n) same ∙ drop-drop n from old

-- the list in order so far, with one part more
pub order-more : {X : Type 0} (key : X → ℕ) (parts rest : List Part) (part : Part) (cur old new whole : List X) (from n k : ℕ) → parts ≡ part ∷ rest → n ≡ part.size → k ≡ n
    → from + n ≤ length cur → drop from cur ≡ drop from old → new ≡ sort_part key part.kind (take k (drop from cur))
    → take from cur ++ sort_parts key parts (drop from old) ≡ whole
    → take (from + n) (put_mid from k cur new) ++ sort_parts key rest (drop (from + n) old) ≡ whole
order-more key parts rest part cur old new whole from n k first size e fits same is before =
    let piece : new ≡ sort_part key part.kind (take part.size (drop from old)) = is ∙ ap (sort_part key part.kind) (ap (λ m. take m (drop from cur)) (e ∙ size) ∙ ap (take part.size) same) in
    let len : length new ≡ n = ap length is ∙ length-sort_part key part.kind (take k (drop from cur)) ∙ length-taken k n (drop from cur) e (let d = length-drop from cur in omega (arith, d, fits)) in
    ap (λ xs. xs ++ sort_parts key rest (drop (from + n) old)) (take-put_mid from k cur new (from + n) (omega (arith, len)) (omega (arith, fits)))
    ∙ append_assoc (take from cur) new (sort_parts key rest (drop (from + n) old))
    ∙ ap (λ xs. take from cur ++ xs) (ap₂ (λ xs ys. xs ++ sort_parts key rest ys) piece (sym (drop-drop n from old) ∙ ap (λ m. drop m (drop from old)) size))
    ∙ ap (λ ps. take from cur ++ sort_parts key ps (drop from old)) (sym first) ∙ before

-- the sign so far, with one part more
pub sign-more : {X : Type 0} (key : X → ℕ) (parts rest : List Part) (part : Part) (cur old : List X) (before after turn whole : Sign) (from n k : ℕ) → parts ≡ part ∷ rest → n ≡ part.size → k ≡ n
    → drop from cur ≡ drop from old → after ≡ times before turn → turn ≡ part_sign part.kind (map key (take k (drop from cur)))
    → times before (parts_sign parts (map key (drop from old))) ≡ whole
    → times after (parts_sign rest (map key (drop (from + n) old))) ≡ whole
sign-more key parts rest part cur old before after turn whole from n k first size e same is turn_is so_far =
    let ks = map key (drop from old) in
    let here : turn ≡ part_sign part.kind (take part.size ks) =
    turn_is ∙ ap (part_sign part.kind) (ap₂ (λ m xs. map key (take m xs)) (e ∙ size) same ∙ sym (take-map key part.size (drop from old))) in
    let there : map key (drop (from + n) old) ≡ drop part.size ks =
    ap (map key) (sym (drop-drop n from old) ∙ ap (λ m. drop m (drop from old)) size) ∙ sym (drop-map key part.size (drop from old)) in
    ap₂ times (is ∙ ap (times before) here) (ap (parts_sign rest) there)
    ∙ times_assoc before (part_sign part.kind (take part.size ks)) (parts_sign rest (drop part.size ks))
    ∙ ap (λ ps. times before (parts_sign ps ks)) (sym first) ∙ so_far
