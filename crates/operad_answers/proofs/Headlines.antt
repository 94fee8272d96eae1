-- The headline.
use Rattle.std.proofs.Common.{Bool, true, false, ◌≡◌, ◌↔◌, ℕ, zero, suc, ◌+◌, ◌-◌, ◌<◌, ◌≤◌, ◌^◌, List, [], ◌∷◌, length, drop, codes, refl, sym, ◌∙◌, ap, ap₂, arith, subst, inl, inr, length-append}
use Rattle.std.specs.Prelude.{◌++◌, if◌then◌else◌}
use Rattle.std.proofs.lemmas.Bool.Decides.{Decides-eqb}
use Rattle.std.proofs.lemmas.Slice.Eq.{starts_is}
use Rattle.std.specs.List.{All, flat_map}
use Rattle.std.specs.Fmt.{decimal}
use Rattle.std.proofs.lemmas.List.{append_assoc}
use Rattle.std.proofs.lemmas.List.Elements.{All-from_recursion}
use Rattle.modular_sums.specs.Lists.{Mem, Nth}
use Rattle.modular_sums.specs.Sums.{scale}
use Rattle.labelled_trees.specs.Trees.{Tree}
use Rattle.operad_ideals.proofs.Ideals.{ideal_zero, ideal-scale}
use Rattle.symmetric_sums.proofs.Expansions.{one_label}
use Rattle.presentation_text.specs.ReadBack.{IsWritable}
use Rattle.presentation_text.specs.SumText.{sum_text}
use Rattle.presentation_text.specs.declared.document.Document.{Document}
use Rattle.certificate_text.specs.PrintedBlocks.{block_text}
use Rattle.certificate_text.specs.Plain.{plain_block}
use Rattle.operad_answers.specs.OrderedPresentations.{presentation, written, IsWellFormed, asks_of}
use Rattle.operad_answers.specs.Parts.{line}
use Rattle.operad_answers.specs.Texts.{Sum, EachWith, IsNarrow, queries, IsAnswer, IsFormsText}
use Rattle.operad_answers.specs.Verdicts.{Holds, Sides, comparisons, numbered_from, yes_line, is_yes, yes_number, IsYes, IsNo, IsVerdict, IsProveText, verdict_block, verdict_blocks, AreQuestionsOver}
use Rattle.operad_answers.specs.Commands.{Command, normal, basis, forms, prove, IsTextOf}
use Rattle.operad_answers.specs.Headline.{HasArity, IsInIdeal, LinesDecide, IsRightVerdict, VerdictsAreRight, Means, Headline}
use Rattle.operad_answers.proofs.JoinedTexts.{comparisons_few}
use Rattle.operad_answers.proofs.Existing.{are_bases}
use Rattle.operad_answers.proofs.ReducedRules.{reduced_rules}
use Rattle.operad_answers.proofs.NumberedLists.{nth_is_member}
use Rattle.operad_ideals.proofs.TreeLists.{all_members}
use Rattle.operad_answers.proofs.PrintedLines.{answer_at, answer_lines, blocks_hold, prove_texts_are_read}
use Rattle.operad_answers.proofs.Forms.{decide, one_answer}
use Rattle.operad_answers.proofs.Deciding.{verdicts_decide}
use Rattle.operad_answers.proofs.Questions.{questions_are_elements}
use Rattle.operad_answers.proofs.WellFormed.{writable_well_formed, documents_writable}

pub all_of : {X : Type 0} (P : X → Type 0) (l : List X) → ((x : X) → Mem x l → P x) → All P l
all_of P l h = All-from_recursion P l (all_members P l h)

each_long : {X Y : Type 0} (R : X → Y → Type 0) (xs : List X) (ys : List Y) → EachWith R xs ys → length ys ≡ length xs
each_long R [] [] each = refl
each_long R [] (y ∷ ys) each = absurd each
each_long R (x ∷ xs) [] each = absurd each
each_long R (x ∷ xs) (y ∷ ys) each = ap suc (each_long R xs ys each.1)

module _ (d : Document) (formed : IsWritable d) where
  well_formed : IsWellFormed (written d)
  well_formed = writable_well_formed d formed

  elements : AreQuestionsOver d.gens (asks_of d)
  elements = questions_are_elements d formed

  -- ---- lines of answers

  -- an element that has terms has at most the arity that its trees may have
  few : (n m : ℕ) (x : ℕ × Tree ℕ) (e : Sum) → HasArity d n (x ∷ e) → IsNarrow d.gens m (x ∷ e) → n ≤ 9
  few n m x e h k = let same = one_label d.gens n m x.1 h.0 (k.1).0 in omega (arith, same, k.0)

  both : (e f : Sum) → (k : (m : ℕ) × IsNarrow d.gens m e) → (l : (m : ℕ) × IsNarrow d.gens m f) → (n : ℕ) → HasArity d n e → HasArity d n f
      → (one two : List ℕ) → IsAnswer (written d) e one → IsAnswer (written d) f two → (one ≡ two) ↔ IsInIdeal d n (e ++ scale (d.field - 1) f)
  both [] [] k l n a b one two h g = (
    λ same. ideal-scale (presentation (written d)) n (d.field - 1) [] (ideal_zero (presentation (written d)) n),
    λ m. one_answer (written d) well_formed [] one two h g,
  )
  both (x ∷ e) f k l n a b one two h g = decide (written d) well_formed n (few n k.0 x e a k.1) (x ∷ e) f a b one two h g
  both [] (y ∷ f) k l n a b one two h g = decide (written d) well_formed n (few n l.0 y f b l.1) [] (y ∷ f) a b one two h g

  lines_decide : (text : List ℕ) → IsFormsText (written d) (asks_of d) text → LinesDecide d text
  lines_decide text printed =
      let are = answer_lines (written d) well_formed (asks_of d) elements text printed in
      record {
        as_many = ap length are ∙ each_long (IsAnswer (written d)) (queries (asks_of d)) printed.answers printed.are_answers;
        ended = printed.text_is ∙ ap (flat_map line) (sym are);
        are_forms = subst (EachWith (IsAnswer (written d)) (queries (asks_of d))) (sym are) printed.are_answers;
        arities = λ i e he. let k = elements.queried e (nth_is_member i (queries (asks_of d)) e he) in (k.0, k.1.1);
        exactly = λ i j e f he hf n a b one two g h.
            both e f (elements.queried e (nth_is_member i (queries (asks_of d)) e he)) (elements.queried f (nth_is_member j (queries (asks_of d)) f hf)) n a b one two
            (answer_at (written d) well_formed i (queries (asks_of d)) printed.answers printed.are_answers e one he (subst (λ l. Nth i l one) are g))
            (answer_at (written d) well_formed j (queries (asks_of d)) printed.answers printed.are_answers f two hf (subst (λ l. Nth j l two) are h));
      }

  -- ---- verdicts

  -- a no doesn't begin as a yes does
  cancelled : (front a b : List ℕ) → front ++ a ≡ front ++ b → a ≡ b
  cancelled [] a b e = e
  cancelled (x ∷ front) a b e = let rest : front ++ a ≡ front ++ b = cc in cancelled front a b rest

  no_is_not_yes : (k : ℕ) (f rest : List ℕ) → line (codes "# " ++ (decimal k ++ (codes " no " ++ f))) ≡ line (codes "# " ++ (decimal k ++ codes " yes")) ++ rest → ⊥
  no_is_not_yes k f rest e = apart (cancelled (codes "# " ++ decimal k) (codes " no " ++ (f ++ 10 ∷ [])) (codes " yes" ++ (10 ∷ rest)) (sym left ∙ e ∙ right))
    where
      number : List ℕ
      number = codes "# " ++ decimal k

      left : line (codes "# " ++ (decimal k ++ (codes " no " ++ f))) ≡ (codes "# " ++ decimal k) ++ (codes " no " ++ (f ++ 10 ∷ []))
      left = ap (λ t. codes "# " ++ t) (append_assoc (decimal k) (codes " no " ++ f) (10 ∷ []))

      right : line (codes "# " ++ (decimal k ++ codes " yes")) ++ rest ≡ (codes "# " ++ decimal k) ++ (codes " yes" ++ (10 ∷ rest))
      right = ap (λ t. (codes "# " ++ t) ++ rest) (append_assoc (decimal k) (codes " yes") (10 ∷ [])) ∙ ap (λ t. codes "# " ++ t) (append_assoc (decimal k) (codes " yes" ++ 10 ∷ []) rest)

      apart : codes " no " ++ (f ++ 10 ∷ []) ≡ codes " yes" ++ (10 ∷ rest) → ⊥
      apart q = let letter : ◌≡◌ {A = ℕ} 110 121 = cc in omega (arith, letter)

  starts : (k : ℕ) (text : List ℕ) → (is_yes k text ≡ true → text ≡ yes_line k ++ drop (length (yes_line k)) text) × ((rest : List ℕ) → text ≡ yes_line k ++ rest → is_yes k text ≡ true)
  starts k text = starts_is Decides-eqb text (yes_line k) (is_yes k text) refl

  yes_begins : (k : ℕ) (sides : Sides) (text : List ℕ) → IsYes d k sides text → is_yes k text ≡ true
  yes_begins k sides text y = (starts k text).1 (block_text d.field d.gens (plain_block y.shown.block)) y.text_is

  no_begins_not : (k : ℕ) (sides : Sides) (text : List ℕ) → IsNo d k sides text → is_yes k text ≡ true → ⊥
  no_begins_not k sides text h s = no_is_not_yes k (sum_text d.field d.gens h.form) (drop (length (yes_line k)) text) (sym h.text_is ∙ (starts k text).0 s)

  yes_of : (k : ℕ) (sides : Sides) (text : List ℕ) → IsVerdict d (k, sides) text → is_yes k text ≡ true → IsYes d k sides text
  yes_of k sides text (inl y) s = y
  yes_of k sides text (inr h) s = absurd (no_begins_not k sides text h s)

  no_of : (k : ℕ) (sides : Sides) (text : List ℕ) → IsVerdict d (k, sides) text → (IsYes d k sides text → ⊥) → IsNo d k sides text
  no_of k sides text (inl y) f = absurd (f y)
  no_of k sides text (inr h) f = h

  -- each verdict has a block exactly where it says yes
  one_or_none : (k : ℕ) (sides : Sides) (text : List ℕ) (v : IsVerdict d (k, sides) text) → length (verdict_block d (k, sides) text v) ≡ (if is_yes k text then 1 else 0)
  one_or_none k sides text (inl y) = ap (λ (b : Bool). if b then 1 else 0) (sym (yes_begins k sides text y))
  one_or_none k sides text (inr h) = go (is_yes k text) refl
    where
      go : (b : Bool) → is_yes k text ≡ b → ◌≡◌ {A = ℕ} 0 (if b then 1 else 0)
      go true e = absurd (no_begins_not k sides text h e)
      go false e = refl

  pub as_many_blocks : (k : ℕ) (l : List Sides) (texts : List (List ℕ)) (each : EachWith (IsVerdict d) (numbered_from k l) texts) → length (verdict_blocks d (numbered_from k l) texts each) ≡ yes_number k texts
  as_many_blocks k [] [] each = refl
  as_many_blocks k [] (t ∷ texts) each = absurd each
  as_many_blocks k (s ∷ l) [] each = absurd each
  as_many_blocks k (s ∷ l) (t ∷ texts) each =
      length-append (verdict_block d (k, s) t each.0) (verdict_blocks d (numbered_from (suc k) l) texts each.1)
      ∙ ap₂ (λ a b. a + b) (one_or_none k s t each.0) (as_many_blocks (suc k) l texts each.1)

  verdict_at : (k i : ℕ) (l : List Sides) (texts : List (List ℕ)) → EachWith (IsVerdict d) (numbered_from (suc k) l) texts → (sides : Sides) (text : List ℕ) → Nth i l sides → Nth i texts text → IsVerdict d (k + i, sides) text
  verdict_at k i [] texts each sides text h g = absurd h
  verdict_at k i (s ∷ l) [] each sides text h g = absurd each
  verdict_at k zero (s ∷ l) (t ∷ texts) each sides text h g = absurd h
  verdict_at k (suc zero) (s ∷ l) (t ∷ texts) each sides text h g =
      let e : suc k ≡ k + 1 = omega arith in
      subst (λ m. IsVerdict d (m, sides) text) e (subst (λ x. IsVerdict d (suc k, x) text) (sym h) (subst (λ x. IsVerdict d (suc k, s) x) (sym g) each.0))
  verdict_at k (suc (suc i)) (s ∷ l) (t ∷ texts) each sides text h g =
      let e : suc k + suc i ≡ k + suc (suc i) = omega arith in
      subst (λ m. IsVerdict d (m, sides) text) e (verdict_at (suc k) (suc i) l texts each.1 sides text h g)

  right_verdict : (k n : ℕ) (sides : Sides) → HasArity d n sides.left → HasArity d n sides.right → (text : List ℕ) → IsVerdict d (k, sides) text → IsRightVerdict d k n sides text
  right_verdict k n sides a b text v =
      let law = verdicts_decide d formed k n sides a b text in
      let same = law.exactly v in
      record {
        yes = same;
        begins = (λ s. same.0 (yes_of k sides text v s), λ m. yes_begins k sides text (same.1 m));
        no = (λ h m. law.refutes h m, λ f. no_of k sides text v (λ y. f (same.0 y)));
      }

  verdicts_right : length (comparisons (asks_of d)) < 2 ^ 63 → (text : List ℕ) → IsProveText d (asks_of d) text → VerdictsAreRight d text
  verdicts_right few text printed = record {
    verdicts = printed.verdicts;
    text_is = printed.text_is;
    are_verdicts = printed.are_verdicts;
    arities = λ k sides h. let w = elements.compared sides (nth_is_member k (comparisons (asks_of d)) sides h) in (w.0, (w.1).1, (w.2).1);
    right = right;
    as_many = as_many_blocks 1 (comparisons (asks_of d)) printed.verdicts printed.are_verdicts;
    read = λ number. (prove_texts_are_read d formed (asks_of d) elements few text printed number).0;
    hold = all_of (Holds d) (verdict_blocks d (numbered_from 1 (comparisons (asks_of d))) printed.verdicts printed.are_verdicts)
        (blocks_hold d formed (asks_of d) text printed);
  }
    where
      right : (k : ℕ) (sides : Sides) (verdict : List ℕ) → Nth k (comparisons (asks_of d)) sides → Nth k printed.verdicts verdict
          → (n : ℕ) → HasArity d n sides.left → HasArity d n sides.right → IsRightVerdict d k n sides verdict
      right k sides verdict h g n a b =
          let z : 0 + k ≡ k = omega arith in
          right_verdict k n sides a b verdict
          (subst (λ m. IsVerdict d (m, sides) verdict) z (verdict_at 0 k (comparisons (asks_of d)) printed.verdicts printed.are_verdicts sides verdict h g))

  pub means : length (comparisons (asks_of d)) < 2 ^ 63 → (command : Command) (N : ℕ) (text : List ℕ) → IsTextOf command d N text → Means d command N text
  means few normal N text h = are_bases (written d) well_formed N text h
  means few basis N text h = reduced_rules (written d) well_formed N text h
  means few forms N text h = lines_decide text h
  means few prove N text h = verdicts_right few text h

pub headline : Headline
headline bytes d h short command N text printed =
    let most = comparisons_few bytes d h in
    means d (documents_writable bytes d h) (omega (arith, most, short)) command N text printed
