-- The text of a document is read back to the same.
use Rattle.std.proofs.Common.{◌≡◌, ℕ, suc, ◌+◌, ◌^◌, ◌<◌, ◌≤◌, inl, inr, List, [], ◌∷◌, ◌++◌, length, map, codes, Option, Some, None, refl, ap, ap₂, sym, ◌∙◌, subst, arith, append-nil, append_assoc, length-append}
use Rattle.std.specs.List.{All, flat_map}
use Rattle.std.proofs.lemmas.List.{map-append}
use Rattle.prime_field.specs.Primes.{IsFieldPrime}
use Rattle.labelled_trees.specs.Trees.{Tree, leaf, node, none, more}
use Rattle.labelled_trees.specs.Leaves.{leaf_count, leaf_count_row}
use Rattle.labelled_trees.proofs.Counts.{leaf_count-labelled}
use Rattle.operad_ideals.specs.Laws.{arity}
use Rattle.symmetric_trees.specs.Generators.{IsTable, parts_at}
use Rattle.symmetric_trees.specs.Trees.{Fits}
use Rattle.symmetric_trees.specs.declared.generators.Generator.{Generator}
use Rattle.symmetric_sums.specs.Terms.{terms_of}
use Rattle.symmetric_sums.specs.declared.term.Term.{Term}
use Rattle.presentation_text.specs.declared.document.Ask.{Ask}
use Rattle.presentation_text.specs.declared.document.AskKind.{AskKind}
use Rattle.presentation_text.specs.declared.document.AskKind.TheVariants.{Query, Same}
use Rattle.presentation_text.specs.declared.document.OrderName.{OrderName}
use Rattle.presentation_text.specs.declared.lexing.Token.TheVariants.{Word, Byte}
use Rattle.presentation_text.specs.Accepted.{AreDemanded}
use Rattle.presentation_text.specs.DocumentText.{relation_text, ask_text}
use Rattle.presentation_text.specs.DraftReadings.{asked_kind}
use Rattle.presentation_text.specs.ElementReadings.{arity_of_first}
use Rattle.presentation_text.specs.Elements.{Written, IsElementTree, element_tokens, written_sum}
use Rattle.presentation_text.specs.Grammar.{numbered_tokens, LineAdds, a_relation, a_query, a_comparison}
use Rattle.presentation_text.specs.LineReadings.{Contents, Asked, query as a_query_of, same as a_pair_of}
use Rattle.presentation_text.specs.Lines.{HasNoFeed, lines}
use Rattle.presentation_text.specs.ReadBack.{IsWrittenRelation, IsWrittenAsk}
use Rattle.presentation_text.specs.PrintedElements.{IsWrittenOver}
use Rattle.presentation_text.specs.SumText.{sum_text}
use Rattle.presentation_text.specs.TreeText.{HasWords}
use Rattle.presentation_text.specs.Tokens.{tokens}
use Rattle.presentation_text.proofs.LineTexts.{no_feed-word}
use Rattle.presentation_text.proofs.PrintedElements.{printable, trees-of, demanded}
use Rattle.presentation_text.proofs.PrintedFeeds.{no_feed-sum}
use Rattle.presentation_text.proofs.PrintedStages.{Reach, reach-end, reach-line, stage, IsVersion, stands-rel, stands-query, stands-same}
use Rattle.presentation_text.proofs.PrintedSums.{read_back}

pub field_small : (p : ℕ) → IsFieldPrime p → p < 2 ^ 64
field_small p (inl e) = omega arith
field_small p (inr (inl e)) = omega arith
field_small p (inr (inr (inl e))) = omega arith
field_small p (inr (inr (inr (inl e)))) = omega arith
field_small p (inr (inr (inr (inr (inl e))))) = omega arith
field_small p (inr (inr (inr (inr (inr (inl e)))))) = omega arith
field_small p (inr (inr (inr (inr (inr (inr e)))))) = absurd e

-- ---- sums that an element may say

-- the text of the sum has the tokens of these terms, which say it and are as demanded
pub record IsPrintedAs (p : ℕ) (generators : List Generator) (n : ℕ) (e : List (ℕ × Tree ℕ)) : Type 0 where
  pub terms : List Written
  pub read : tokens (sum_text p generators e) ≡ element_tokens generators terms
  pub says : written_sum p terms ≡ e
  pub trees : All (λ term. IsElementTree generators n term.tree) terms
  pub feed : HasNoFeed (sum_text p generators e)

some_leaf : (generators : List Generator) (t : Tree ℕ) → Fits generators t → 0 < leaf_count t
some_leaf generators (leaf a) h = omega arith
some_leaf generators (node g none) h = let none_in : 0 ≡ arity (parts_at generators) g = h.1 in absurd (omega (arith, none_in, h.0))
some_leaf generators (node g (more t r)) h =
    let first = some_leaf generators t h.2.0 in
    let both : leaf_count (node g (more t r)) ≡ leaf_count t + leaf_count_row r = refl in
    omega (arith, first, both)

-- the same where one leaf at least is asked, which each tree has
pub demanded_once : (generators : List Generator) (n : ℕ) (known : Option ℕ) (terms : List Written) → ((m : ℕ) → known ≡ Some m → n ≡ m) → All (λ term. IsElementTree generators n term.tree) terms → AreDemanded generators 1 known terms
demanded_once generators n known [] same h = tt
demanded_once generators n known (term ∷ terms) same h =
    let own = h 0 term (omega arith) in
    let count = leaf_count-labelled (arity (parts_at generators)) n term.tree own.labelled in
    let some = some_leaf generators term.tree own.labelled.fits in
    demanded generators 1 n known (term ∷ terms) (omega (arith, count, some)) same h

some_apart : (a b : ℕ) → Some a ≡ Some b → a ≡ b
some_apart a b e = cc

first_arity : (generators : List Generator) (n : ℕ) (terms : List Written) → All (λ term. IsElementTree generators n term.tree) terms → (m : ℕ) → arity_of_first terms ≡ Some m → n ≡ m
first_arity generators n [] h m e = cc
first_arity generators n (term ∷ terms) h m e =
    let own = leaf_count-labelled (arity (parts_at generators)) n term.tree (h 0 term (omega arith)).labelled in
    sym own ∙ some_apart (leaf_count term.tree) m e

module _ (p : ℕ) (generators : List Generator) (prime : IsFieldPrime p) (table : IsTable generators) (words : HasWords generators) where
  pub printed_as : (n : ℕ) (e : List (ℕ × Tree ℕ)) → IsWrittenOver p generators n e → IsPrintedAs p generators n e
  printed_as n e h =
      let may = printable p generators n e h in
      let back = (read_back p generators prime table words).read_back e may in
      record {
        terms = back.terms;
        read = back.read;
        says = back.same;
        trees = trees-of generators n back.terms e back.trees (λ k d l. (h k d l).tree);
        feed = no_feed-sum p generators words (field_small p prime) e may;
      }

  -- ---- relations and questions one after the other

  module _ (P : Contents → Type 0) (version : ℕ) (order : OrderName) (weights : List (Option ℕ)) (v : IsVersion version) where
    abbrev now : List (List (ℕ × Tree ℕ)) → List (ℕ × Asked) → ℕ → Contents
    now relations asks s = stage version p order generators weights relations asks s

    pub reach-relations : (rest : List ℕ) (n : ℕ) (done : List (List (ℕ × Tree ℕ))) (rels : List (List Term)) (s : ℕ) → s ≤ 5 → length done + length rels ≤ 1000 → All (λ sum. IsWrittenRelation p generators (terms_of sum)) rels
        → ((m t : ℕ) → t ≤ 5 → Reach P (now (done ++ map terms_of rels) [] t) (numbered_tokens m (lines rest)))
        → Reach P (now done [] s) (numbered_tokens n (lines (flat_map (λ sum. relation_text p generators (terms_of sum)) rels ++ rest)))
    reach-relations rest n done [] s early few said_all on = subst (λ rs. Reach P (now rs [] s) (numbered_tokens n (lines rest))) (append-nil done) (on n s early)
    reach-relations rest n done (sum ∷ rels) s early few said_all on =
        let own = said_all 0 sum (omega arith) in
        let e = terms_of sum in
        let printed = printed_as own.0 e own.2 in
        let contents = now done [] s in
        let further = flat_map (λ x. relation_text p generators (terms_of x)) rels in
        let moved = append_assoc done (e ∷ []) (map terms_of rels) in
        subst (λ xs. Reach P contents (numbered_tokens n (lines xs))) (sym (append_assoc (relation_text p generators e) further rest))
        (reach-line P contents (now (done ++ e ∷ []) [] 5) n (codes "rel") (sum_text p generators e ∷ []) (further ++ rest) (Word (codes "rel") ∷ element_tokens generators printed.terms)
        (refl, refl) (no_feed-word (codes "rel") (refl, refl)) (printed.feed, tt) (ap (λ ts. Word (codes "rel") ∷ ts) (append-nil (tokens (sum_text p generators e)) ∙ printed.read))
        (stands-rel p order generators weights done [] s version v early (element_tokens generators printed.terms))
        (subst (λ x. LineAdds contents n (Word (codes "rel") ∷ element_tokens generators printed.terms) (now (done ++ x ∷ []) [] 5)) printed.says
        (a_relation printed.terms (omega (arith, few)) (demanded generators 2 own.0 None printed.terms own.1 (λ m no_one. cc) printed.trees)))
        (reach-relations rest (suc n) (done ++ e ∷ []) rels 5 (omega arith) (let l = length-append done (e ∷ []) in omega (arith, l, few)) (λ k d l. said_all (suc k) d (omega (arith, l)))
        (λ m t u. subst (λ rs. Reach P (now rs [] t) (numbered_tokens m (lines rest))) (sym moved) (on m t u))))

    abbrev kinds : List (ℕ × Asked) → List Asked
    kinds = map (λ (x : ℕ × Asked). x.1)

    -- a question joins the others
    one_kind : (done : List (ℕ × Asked)) (n : ℕ) (kind : Asked) (others : List Asked) → kinds (done ++ (n, kind) ∷ []) ++ others ≡ kinds done ++ kind ∷ others
    one_kind done n kind others = ap (λ xs. xs ++ others) (map-append (λ (x : ℕ × Asked). x.1) done ((n, kind) ∷ [])) ∙ append_assoc (kinds done) (kind ∷ []) others

    -- the line of one question
    reach-ask : (relations : List (List (ℕ × Tree ℕ))) (rest : List ℕ) (n : ℕ) (done : List (ℕ × Asked)) (kind : AskKind) (s : ℕ) → s ≤ 6 → IsWrittenAsk p generators kind
        → Reach P (now relations (done ++ (n, asked_kind kind) ∷ []) 6) (numbered_tokens (suc n) (lines rest))
        → Reach P (now relations done s) (numbered_tokens n (lines (ask_text p generators kind ++ rest)))
    reach-ask relations rest n done (Query sum) s early may on =
        let e = terms_of sum in
        let printed = printed_as may.0 e may.1 in
        let contents = now relations done s in
        reach-line P contents (now relations (done ++ (n, a_query_of e) ∷ []) 6) n (codes "query") (sum_text p generators e ∷ []) rest (Word (codes "query") ∷ element_tokens generators printed.terms)
        (refl, refl) (no_feed-word (codes "query") (refl, refl)) (printed.feed, tt) (ap (λ ts. Word (codes "query") ∷ ts) (append-nil (tokens (sum_text p generators e)) ∙ printed.read))
        (stands-query p order generators weights relations done s version v early (element_tokens generators printed.terms))
        (subst (λ x. LineAdds contents n (Word (codes "query") ∷ element_tokens generators printed.terms) (now relations (done ++ (n, a_query_of x) ∷ []) 6)) printed.says
        (a_query printed.terms (demanded_once generators may.0 None printed.terms (λ m no_one. cc) printed.trees)))
        on
    reach-ask relations rest n done (Same left right) s early may on =
        let d = terms_of left in
        let e = terms_of right in
        let one = printed_as may.0 d may.1 in
        let two = printed_as may.0 e may.2 in
        let contents = now relations done s in
        let ts = element_tokens generators one.terms ++ Byte 61 ∷ element_tokens generators two.terms in
        reach-line P contents (now relations (done ++ (n, a_pair_of d e) ∷ []) 6) n (codes "same") (sum_text p generators d ∷ (codes "=" ∷ (sum_text p generators e ∷ []))) rest (Word (codes "same") ∷ ts)
        (refl, refl) (no_feed-word (codes "same") (refl, refl)) (one.feed, ((λ same. omega (arith, same), tt), (two.feed, tt)))
        (ap₂ (λ xs ys. Word (codes "same") ∷ (xs ++ Byte 61 ∷ ys)) one.read (append-nil (tokens (sum_text p generators e)) ∙ two.read))
        (stands-same p order generators weights relations done s version v early ts)
        (subst (λ y. LineAdds contents n (Word (codes "same") ∷ ts) (now relations (done ++ (n, a_pair_of d y) ∷ []) 6)) two.says
        (subst (λ x. LineAdds contents n (Word (codes "same") ∷ ts) (now relations (done ++ (n, a_pair_of x (written_sum p two.terms)) ∷ []) 6)) one.says
        (a_comparison one.terms two.terms (demanded_once generators may.0 None one.terms (λ m no_one. cc) one.trees) (demanded_once generators may.0 (arity_of_first one.terms) two.terms (first_arity generators may.0 one.terms one.trees) two.trees))))
        on

    pub reach-asks : (relations : List (List (ℕ × Tree ℕ))) (n : ℕ) (done : List (ℕ × Asked)) (asks : List Ask) (s : ℕ) → s ≤ 6 → All (λ ask. IsWrittenAsk p generators ask.kind) asks
        → ((t : ℕ) (all : List (ℕ × Asked)) → kinds all ≡ kinds done ++ map (λ ask. asked_kind ask.kind) asks → P (now relations all t))
        → Reach P (now relations done s) (numbered_tokens n (lines (flat_map (λ ask. ask_text p generators ask.kind) asks)))
    reach-asks relations n done [] s early said_all on = reach-end P (now relations done s) (on s done (sym (append-nil (kinds done))))
    reach-asks relations n done (ask ∷ asks) s early said_all on =
        reach-ask relations (flat_map (λ x. ask_text p generators x.kind) asks) n done ask.kind s early (said_all 0 ask (omega arith))
        (reach-asks relations (suc n) (done ++ (n, asked_kind ask.kind) ∷ []) asks 6 (omega arith) (λ k d l. said_all (suc k) d (omega (arith, l)))
        (λ t all h. on t all (h ∙ one_kind done n (asked_kind ask.kind) (map (λ x. asked_kind x.kind) asks))))
