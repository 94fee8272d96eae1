-- Which tokens are accepted as those of a sum or a use.
use Rattle.std.proofs.Common.{◌≡◌, ◌≤◌, ℕ, zero, suc, Bool, true, if◌then◌else◌, List, [], ◌∷◌, ◌++◌, codes, length, None, Ok, append-nil, length-append, arith, ap, refl, subst, sym, ◌∙◌}
use Rattle.std.specs.List.{All}
use Rattle.std.proofs.lemmas.List.Elements.{All-nil, All-cons, All-head, All-tail}
use Rattle.labelled_trees.specs.Trees.{Tree}
use Rattle.symmetric_trees.specs.Generators.{IsTable}
use Rattle.symmetric_trees.specs.declared.generators.Generator.{Generator}
use Rattle.symmetric_sums.specs.declared.instance.Rule.{Rule}
use Rattle.presentation_text.specs.Accepted.{ElementsAreAccepted, NotMarked, TreesAreAccepted}
use Rattle.presentation_text.specs.ElementReadings.{element_in}
use Rattle.presentation_text.specs.Elements.{element_tokens, written_sum}
use Rattle.presentation_text.specs.Readings.{end_in, mark_in}
use Rattle.presentation_text.specs.TreeReadings.{any_arity, demands_of}
use Rattle.presentation_text.specs.TreeText.{tree_tokens}
use Rattle.presentation_text.specs.declared.lexing.Token.{Token}
use Rattle.presentation_text.specs.declared.lexing.Token.TheVariants.{Word, Number, Byte}
use Rattle.certificate_text.specs.BlockReadings.{cited_in, coefficient_in, free_tree_in, inputs_in, sum_in, use_in}
use Rattle.certificate_text.specs.BlockText.{AreSumTokens}
use Rattle.certificate_text.specs.Plain.{PlainUse}
use Rattle.certificate_text.specs.UseText.{IsUse, behind_tokens, inputs_tokens, signed_residue}
use Rattle.presentation_text.proofs.AcceptedParts.{end_read}
use Rattle.presentation_text.proofs.LineReadingsRead.{both_read, one_value}
use Rattle.certificate_text.proofs.TokensRead.{cited_read, cited_there, coefficient_read, coefficient_there, minus}
use Rattle.certificate_text.proofs.UseReading.{no_input}
use Rattle.presentation_text.proofs.TreesAcceptedTrees.{mark_in-front}
use Rattle.presentation_text.proofs.AcceptedLines.{ends_whole, not_other}
use Rattle.certificate_text.proofs.PrintedUses.{IsInput}

-- ---- sums

module _ (elements : ElementsAreAccepted) (generators : List Generator) (table : IsTable generators) (p : ℕ) (ts : List Token) (sum : List (ℕ × Tree ℕ)) where
  pub sum_told : sum_in p generators ts ≡ Ok sum → AreSumTokens p generators ts sum
  unfolding sum_in
  sum_told e =
      let element = both_read (element_in generators (demands_of 1 None) ts) _ sum e in
      let terms = (element.0).0 in
      let rest = (element.0).1 in
      let end = both_read (end_in rest) _ sum element.2 in
      let accepted = (elements generators table 1 None ts rest terms).0 element.1 in
      let none : rest ≡ [] = end_read rest end.0 end.1 in
      let says : written_sum p terms ≡ sum = cc (end.2) in
      record {
        terms = terms;
        spelled = accepted.0 ∙ ap (λ r. element_tokens generators terms ++ r) none ∙ append-nil (element_tokens generators terms);
        trees = accepted.1;
        sum_is = sym says;
      }

  pub sum_read : AreSumTokens p generators ts sum → sum_in p generators ts ≡ Ok sum
  unfolding sum_in
  sum_read h =
      let there : element_in generators (demands_of 1 None) ts ≡ Ok (h.terms, []) =
      (elements generators table 1 None ts [] h.terms).1 (h.spelled ∙ sym (append-nil (element_tokens generators h.terms)), h.trees, ends_whole h.terms) in
      rw there (ap Ok (sym h.sum_is))

-- ---- inputs

-- no '*' stands where ';' does
no_star : (rest : List Token) → NotMarked 42 (Byte 59 ∷ rest)
no_star rest = not_other 59 42 (λ e. omega (arith, e))

inputs_no_star : (generators : List Generator) (inputs : List (Tree ℕ)) → NotMarked 42 (inputs_tokens generators inputs)
inputs_no_star generators [] = tt
inputs_no_star generators (t ∷ ts) = no_star (tree_tokens generators t ++ inputs_tokens generators ts)

module _ (trees : TreesAreAccepted) (generators : List Generator) (table : IsTable generators) where
  inputs_told : (most : ℕ) (ts : List Token) (inputs : List (Tree ℕ)) → inputs_in most generators ts ≡ Ok inputs → (ts ≡ inputs_tokens generators inputs) × All (IsInput generators) inputs
  unfolding inputs_in
  inputs_told most [] inputs e = let none : [] ≡ inputs = cc (no_input most generators) in subst (λ xs. ([] ≡ inputs_tokens generators xs) × All (IsInput generators) xs) none (refl, All-nil (IsInput generators))
  inputs_told zero (token ∷ rest) inputs e = absurd cc
  inputs_told (suc most) (token ∷ rest) inputs e =
      let mark = both_read (mark_in 59 (token ∷ rest)) _ inputs e in
      let tree = both_read (free_tree_in generators mark.0) _ inputs mark.2 in
      let t = (tree.0).0 in
      let behind = (tree.0).1 in
      let others = both_read (inputs_in most generators behind) _ inputs tree.2 in
      let accepted = (trees generators table (any_arity true) mark.0 behind t).0 tree.1 in
      let further = inputs_told most behind others.0 others.1 in
      let all : t ∷ others.0 ≡ inputs = cc (others.2) in
      subst (λ xs. (token ∷ rest ≡ inputs_tokens generators xs) × All (IsInput generators) xs) all (
        mark_in-front 59 (token ∷ rest) mark.0 mark.1 ∙ ap (λ r. Byte 59 ∷ r) (accepted.0 ∙ ap (λ r. tree_tokens generators t ++ r) further.0),
        All-cons (IsInput generators) t others.0 accepted.1 further.1,
      )

  inputs_there : (most : ℕ) (inputs : List (Tree ℕ)) → length (inputs_tokens generators inputs) ≤ most → All (IsInput generators) inputs → inputs_in most generators (inputs_tokens generators inputs) ≡ Ok inputs
  unfolding inputs_in
  inputs_there most [] l h = no_input most generators
  inputs_there zero (t ∷ ts) l h = absurd (omega arith)
  inputs_there (suc most) (t ∷ ts) l h =
      let others = inputs_tokens generators ts in
      let there : free_tree_in generators (tree_tokens generators t ++ others) ≡ Ok (t, others) =
      (trees generators table (any_arity true) (tree_tokens generators t ++ others) others t).1 (refl, All-head (IsInput generators) t ts h, λ _. inputs_no_star generators ts) in
      let further = inputs_there most ts (omega (arith, length-append (tree_tokens generators t) others)) (All-tail (IsInput generators) t ts h) in
      rw (there, further) refl

  -- ---- uses

  -- a use that was read in its parts
  use_made : (p : ℕ) (ts begin third : List Token) (item : PlainUse) (coef : (Bool × ℕ) × List Token) (context : Tree ℕ × List Token) (cited : Rule × List Token) (inputs : List (Tree ℕ))
      → coefficient_in ts ≡ Ok coef → mark_in 59 coef.1 ≡ Ok begin → free_tree_in generators begin ≡ Ok context → mark_in 59 context.1 ≡ Ok third → cited_in third ≡ Ok cited
      → inputs_in (length cited.1) generators cited.1 ≡ Ok inputs
      → item ≡ record { coef = signed_residue p (coef.0).0 (coef.0).1; context = context.0; rule = cited.0; inputs = inputs } → IsUse p generators ts item
  use_made p ts begin third item coef context cited inputs e1 e2 e3 e4 e5 e6 is =
      let accepted = (trees generators table (any_arity true) begin context.1 context.0).0 e3 in
      let by = cited_read third cited e5 in
      let all = inputs_told (length cited.1) cited.1 inputs e6 in
      let behind : context.1 ≡ behind_tokens generators by.step by.number inputs =
      mark_in-front 59 context.1 third e4 ∙ ap (λ r. Byte 59 ∷ r) (by.spelled ∙ ap (λ r. Word (if by.step then codes "step" else codes "rel") ∷ (Number by.number ∷ r)) all.0) in
      let rest : coef.1 ≡ Byte 59 ∷ (tree_tokens generators context.0 ++ behind_tokens generators by.step by.number inputs) =
      mark_in-front 59 coef.1 begin e2 ∙ ap (λ r. Byte 59 ∷ r) (accepted.0 ∙ ap (λ r. tree_tokens generators context.0 ++ r) behind) in
      record {
        written = record { negative = (coef.0).0; number = (coef.0).1; context = context.0; cites_step = by.step; cited = by.number; inputs = inputs };
        spelled = coefficient_read ts coef e1 ∙ ap (λ r. minus (coef.0).0 ++ (Number (coef.0).1 ∷ r)) rest;
        trees = record { context = accepted.1; inputs = all.1 };
        item_is = is ∙ ap (λ rule. record { coef = signed_residue p (coef.0).0 (coef.0).1; context = context.0; rule = rule; inputs = inputs }) by.rule_is;
      }

  module _ (p : ℕ) (ts : List Token) (item : PlainUse) where
    pub use_told : use_in p generators ts ≡ Ok item → IsUse p generators ts item
    unfolding use_in
    use_told e =
        let coef = both_read (coefficient_in ts) _ item e in
        let begin = both_read (mark_in 59 (coef.0).1) _ item coef.2 in
        let context = both_read (free_tree_in generators begin.0) _ item begin.2 in
        let third = both_read (mark_in 59 (context.0).1) _ item context.2 in
        let cited = both_read (cited_in third.0) _ item third.2 in
        let inputs = both_read (inputs_in (length (cited.0).1) generators (cited.0).1) _ item cited.2 in
        use_made p ts begin.0 third.0 item coef.0 context.0 cited.0 inputs.0 coef.1 begin.1 context.1 third.1 cited.1 inputs.1 (sym (one_value _ _ item refl inputs.2))

    pub use_read : IsUse p generators ts item → use_in p generators ts ≡ Ok item
    unfolding use_in
    use_read h =
        let w = h.written in
        let inputs = inputs_tokens generators w.inputs in
        let behind_mark = Word (if w.cites_step then codes "step" else codes "rel") ∷ (Number w.cited ∷ inputs) in
        let behind = behind_tokens generators w.cites_step w.cited w.inputs in
        let coef = ap coefficient_in h.spelled ∙ coefficient_there w.negative w.number (Byte 59 ∷ (tree_tokens generators w.context ++ behind)) in
        let context : free_tree_in generators (tree_tokens generators w.context ++ behind) ≡ Ok (w.context, behind) =
        (trees generators table (any_arity true) (tree_tokens generators w.context ++ behind) behind w.context).1 (refl, h.trees.context, λ _. no_star behind_mark) in
        let cited = cited_there w.cites_step w.cited inputs in
        let all = inputs_there (length inputs) w.inputs (omega arith) h.trees.inputs in
        rw (coef, context, cited, all) (ap Ok (sym h.item_is))
