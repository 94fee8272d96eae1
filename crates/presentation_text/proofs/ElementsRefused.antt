-- Elements are refused rightly: reading stops by what stands before the refused token and by that token, where a number before '*' is another token.
use Rattle.std.proofs.Common.{◌≡◌, ◌⊎◌, inl, inr, ⊎_elim, ℕ, zero, suc, ◌+◌, ◌<◌, ◌≤◌, Bool, true, false, not, ◌&&◌, List, [], ◌∷◌, ◌++◌, length, Option, Some, None, Ok, Err, refl, ap, sym, ◌∙◌, subst, arith, append_assoc, append-nil, length-append}
use Rattle.std.specs.Prelude.{if◌then◌else◌, nat_lt}
use Rattle.labelled_trees.specs.Trees.{Tree, leaf, node}
use Rattle.labelled_trees.specs.Leaves.{leaf_count}
use Rattle.std.specs.List.{All}
use Rattle.std.proofs.lemmas.List.Elements.{All-head, All-tail, All-weaker}
use Rattle.symmetric_trees.specs.Trees.{Fits}
use Rattle.symmetric_trees.specs.Generators.{IsTable}
use Rattle.symmetric_trees.specs.declared.generators.Generator.{Generator}
use Rattle.presentation_text.specs.declared.kinds.DocKind.{DocKind}
use Rattle.presentation_text.specs.declared.kinds.DocKind.TheVariants.{Syntax, NumberLong, NameUnknown, InputCount, TooDeep, TooWide}
use Rattle.presentation_text.specs.declared.lexing.Token.{Token}
use Rattle.presentation_text.specs.declared.lexing.Token.TheVariants.{Word, Number, Long, Byte, Bad}
use Rattle.presentation_text.specs.declared.trees.Demands.{Demands}
use Rattle.presentation_text.specs.Readings.{Fault, Reading, ◌>>=◌}
use Rattle.presentation_text.specs.TreeReadings.{begins_with, demands_of, has_each, differs, tree_in, whole_tree_in}
use Rattle.presentation_text.specs.TreeText.{nested, tree_tokens}
use Rattle.presentation_text.specs.Elements.{Written, coefficient_tokens, term_tokens, further_tokens, element_tokens}
use Rattle.presentation_text.specs.ElementReadings.{behind_one, is_zero, is_nothing, coefficient_of, coefficient, behind_coefficient, term_in, sign, further_in, element_in}
use Rattle.presentation_text.specs.Accepted.{IsDemanded, AreDemanded, NotMarked, EndsTree, EndsBefore, IsSameBefore, AreRuledOut, IsRuledOut, ElementsAreRefusedRightly}
use Rattle.presentation_text.proofs.TreeReadingsSteps.{whole-stops, whole-refused}
use Rattle.presentation_text.proofs.TreesAcceptedTrees.{IsReadInside, tree_sound}
use Rattle.presentation_text.proofs.TreesAccepted.{all_accepted}
use Rattle.presentation_text.proofs.TreesStopReadings.{EndTheSame, IsReadFrom, begins-same, same_before, same_last, within}
use Rattle.presentation_text.proofs.TreesStopTrees.{local_tree}
use Rattle.presentation_text.proofs.TreesGoOn.{only_first}
use Rattle.presentation_text.proofs.TreesStop.{fits_ruled, breaks_ruled, first_of_three, IsJudged, stopped, same_front, same_back}
use Rattle.presentation_text.proofs.TreesStopLimits.{IsReadOrBreaks, tree_or_breaks}
use Rattle.presentation_text.proofs.TreeTokens.{read_once}
use Rattle.presentation_text.proofs.ElementReadingsFurther.{behind_sign, signed, unsigned, sign-stops}
use Rattle.presentation_text.proofs.ElementReadingsWhole.{from_first, first-is, nothing-is, first-stops, further-stops}
use Rattle.presentation_text.proofs.ElementFronts.{unmarked, coefficient-is, behind-is, sign-is, nothing-there, minus-there, minus-behind}
use Rattle.presentation_text.proofs.TermsOnce.{further-no-star}
use Rattle.presentation_text.proofs.ElementsAccepted.{TermSpelled, term-spelled, term-read, elements_accepted}

abbrev written_pair : Bool → Option ℕ → Tree ℕ × List Token → Written × List Token
written_pair negative c found = (record { negative = negative; coefficient = c; tree = found.0 }, found.1)

abbrev listed_pair : Written → List Written × List Token → Reading (List Written)
listed_pair first others = Ok (first ∷ others.0, others.1)

-- ---- what doesn't look far

marked-same : (c : ℕ) (front : List Token) (token : Token) (back beyond : List Token) → NotMarked c (front ++ token ∷ back) → NotMarked c (front ++ token ∷ beyond)
marked-same c [] token back beyond h = h
marked-same c (x ∷ front) token back beyond h = h

sign-same : (front : List Token) (token : Token) (back beyond : List Token) → sign (front ++ token ∷ back) ≡ sign (front ++ token ∷ beyond)
sign-same [] token back beyond = refl
sign-same (x ∷ front) token back beyond = refl

coefficient_of-same : (x : Token) (a b : List Token) → IsSameBefore x a b → coefficient_of x a ≡ coefficient_of x b
coefficient_of-same (Number n) a b e = ap (λ (star : Bool). if star then Some n else None) e
coefficient_of-same (Byte d) a b e = refl
coefficient_of-same (Word w) a b e = refl
coefficient_of-same Long a b e = refl
coefficient_of-same Bad a b e = refl

coefficient-same : (front : List Token) (token : Token) (back beyond : List Token) → IsSameBefore token beyond back → coefficient (front ++ token ∷ beyond) ≡ coefficient (front ++ token ∷ back)
coefficient-same [] token back beyond h = coefficient_of-same token beyond back h
coefficient-same (x ∷ front) token back beyond h =
    coefficient_of-same x (front ++ token ∷ beyond) (front ++ token ∷ back) (same_before x (front ++ token ∷ beyond) (front ++ token ∷ back) (begins-same 42 front token beyond back))

zero-same : (x : Token) (a b : List Token) → IsSameBefore x a b → is_nothing (x ∷ a) ≡ is_nothing (x ∷ b)
zero-same (Number n) a b e = ap (λ star. is_zero (Number n) && not star) e
zero-same (Byte d) a b e = refl
zero-same (Word w) a b e = refl
zero-same Long a b e = refl
zero-same Bad a b e = refl

nothing-same : (front : List Token) (token : Token) (back beyond : List Token) → IsSameBefore token beyond back → is_nothing (front ++ token ∷ beyond) ≡ is_nothing (front ++ token ∷ back)
nothing-same [] token back beyond h = zero-same token beyond back h
nothing-same (x ∷ front) token back beyond h =
    zero-same x (front ++ token ∷ beyond) (front ++ token ∷ back) (same_before x (front ++ token ∷ beyond) (front ++ token ∷ back) (begins-same 42 front token beyond back))

some_tokens : (generators : List Generator) (t : Tree ℕ) → 0 < length (tree_tokens generators t)
some_tokens generators (leaf n) = omega arith
some_tokens generators (node g r) = omega arith

shorter-one : (ts : List Token) → length (behind_one ts) ≤ length ts
shorter-one [] = omega arith
shorter-one (x ∷ ts) = omega arith

shorter-coefficient : (c : Option ℕ) (ts : List Token) → length (behind_coefficient c ts) ≤ length ts
shorter-coefficient None ts = omega arith
shorter-coefficient (Some n) ts = omega (arith, shorter-one ts, shorter-one (behind_one ts))

module _ (generators : List Generator) (table : IsTable generators) where
  -- ---- whole trees

  module _ (demands : Demands) where
    pub whole-bounded : (ts : List Token) (fault : Fault) → whole_tree_in generators demands ts ≡ Err fault → fault.0 ≤ length ts
    whole-bounded ts fault e = ⊎_elim (λ inside. (local_tree generators 8 0).bounded ts fault inside) judged (stopped generators demands ts fault.0 fault.1 e)
      where
        judged : IsJudged generators demands ts fault.0 fault.1 → fault.0 ≤ length ts
        judged j =
            let read : IsReadInside generators 8 0 ts j.tree j.others = tree_sound generators table 8 0 ts j.tree j.others (omega arith) j.read in
            omega (arith, j.left_is, ap length read.spelled, length-append (tree_tokens generators j.tree) j.others, some_tokens generators j.tree)

    whole-again : (front : List Token) (token : Token) (back beyond : List Token) (kind : DocKind) → IsSameBefore token beyond back → whole_tree_in generators demands (front ++ token ∷ back) ≡ Err (suc (length back), kind)
        → whole_tree_in generators demands (front ++ token ∷ beyond) ≡ Err (suc (length beyond), kind)
    whole-again front token back beyond kind like e = ⊎_elim inside judged (stopped generators demands (front ++ token ∷ back) (suc (length back)) kind e)
      where
        inside : tree_in generators 8 0 (front ++ token ∷ back) ≡ Err (suc (length back), kind) → whole_tree_in generators demands (front ++ token ∷ beyond) ≡ Err (suc (length beyond), kind)
        inside i = whole-stops generators demands (front ++ token ∷ beyond) (suc (length beyond), kind) ((local_tree generators 8 0).stops front token back beyond kind like i)

        judged : IsJudged generators demands (front ++ token ∷ back) (suc (length back)) kind → whole_tree_in generators demands (front ++ token ∷ beyond) ≡ Err (suc (length beyond), kind)
        judged j =
            let gone : IsReadFrom (tree_in generators 8 0) (front ++ token ∷ back) j.tree j.others = (local_tree generators 8 0).goes (front ++ token ∷ back) j.tree j.others j.read in
            let both : gone.used ++ j.others ≡ (front ++ token ∷ []) ++ back = sym gone.parted ∙ sym (append_assoc front (token ∷ []) back) in
            let long : length j.others ≡ length back = omega (arith, j.left_is) in
            let used : gone.used ≡ front ++ token ∷ [] = same_front gone.used j.others (front ++ token ∷ []) back both long in
            let others : j.others ≡ back = same_back gone.used j.others (front ++ token ∷ []) back both long in
            let ends : EndTheSame gone.used beyond j.others = subst (λ (ts : List Token). EndTheSame ts beyond j.others) (sym used) (subst (λ (r : List Token). EndTheSame (front ++ token ∷ []) beyond r) (sym others) (same_last front token beyond back like)) in
            whole-refused generators demands (front ++ token ∷ beyond) j.tree beyond kind
            (ap (tree_in generators 8 0) (sym (append_assoc front (token ∷ []) beyond) ∙ ap (λ ts. ts ++ beyond) (sym used)) ∙ gone.again beyond ends) j.row

    -- ---- terms

    pub term-by-tree : (negative : Bool) (ts : List Token) (fault : Fault) → term_in generators demands negative ts ≡ Err fault → whole_tree_in generators demands (behind_coefficient (coefficient ts) ts) ≡ Err fault
    unfolding term_in
    term-by-tree negative ts fault e = only_first (whole_tree_in generators demands (behind_coefficient (coefficient ts) ts))
        (λ (found : Tree ℕ × List Token). written_pair negative (coefficient ts) found) fault e

    tree-stops : (negative : Bool) (ts : List Token) (fault : Fault) → whole_tree_in generators demands (behind_coefficient (coefficient ts) ts) ≡ Err fault → term_in generators demands negative ts ≡ Err fault
    unfolding term_in
    tree-stops negative ts fault e = rw e refl

    pub term-bounded : (negative : Bool) (ts : List Token) (fault : Fault) → term_in generators demands negative ts ≡ Err fault → fault.0 ≤ length ts
    term-bounded negative ts fault e =
        let l = whole-bounded (behind_coefficient (coefficient ts) ts) fault (term-by-tree negative ts fault e) in
        omega (arith, l, shorter-coefficient (coefficient ts) ts)

    behind-again : (c : Option ℕ) (front : List Token) (token : Token) (back beyond : List Token) (kind : DocKind) → IsSameBefore token beyond back → whole_tree_in generators demands (behind_coefficient c (front ++ token ∷ back)) ≡ Err (suc (length back), kind)
        → whole_tree_in generators demands (behind_coefficient c (front ++ token ∷ beyond)) ≡ Err (suc (length beyond), kind)
    behind-again None front token back beyond kind like e = whole-again front token back beyond kind like e
    behind-again (Some n) [] token back beyond kind like e = let l = whole-bounded (behind_one back) (suc (length back), kind) e in absurd (omega (arith, l, shorter-one back))
    behind-again (Some n) (x ∷ []) token back beyond kind like e = let l = whole-bounded back (suc (length back), kind) e in absurd (omega (arith, l))
    behind-again (Some n) (x ∷ (y ∷ front)) token back beyond kind like e = whole-again front token back beyond kind like e

    term-again : (negative : Bool) (front : List Token) (token : Token) (back beyond : List Token) (kind : DocKind) → IsSameBefore token beyond back
        → term_in generators demands negative (front ++ token ∷ back) ≡ Err (suc (length back), kind) → term_in generators demands negative (front ++ token ∷ beyond) ≡ Err (suc (length beyond), kind)
    term-again negative front token back beyond kind like e =
        let c = coefficient (front ++ token ∷ back) in
        let tree = behind-again c front token back beyond kind like (term-by-tree negative (front ++ token ∷ back) (suc (length back), kind) e) in
        let same : coefficient (front ++ token ∷ beyond) ≡ c = coefficient-same front token back beyond like in
        tree-stops negative (front ++ token ∷ beyond) (suc (length beyond), kind) (ap (λ (d : Option ℕ). whole_tree_in generators demands (behind_coefficient d (front ++ token ∷ beyond))) same ∙ tree)

    -- a term is read, and something behind it is refused
    pub record TermThenStops (negative : Bool) (ts : List Token) (stops : Written → List Token → Type 0) : Type 0 where
      pub first : Written
      pub behind : List Token
      pub first_is : term_in generators demands negative ts ≡ Ok (first, behind)
      pub others_stop : stops first behind

    -- the tokens of a term that was read, before the refused token
    record TermBefore (negative : Bool) (front : List Token) (token : Token) (back beyond : List Token) (first : Written) (behind : List Token) : Type 0 where
      between : List Token
      behind_is : behind ≡ between ++ token ∷ back
      short : length between ≤ length front
      again : term_in generators demands negative (front ++ token ∷ beyond) ≡ Ok (first, between ++ token ∷ beyond)

    term-before : (negative : Bool) (front : List Token) (token : Token) (back beyond : List Token) (first : Written) (behind : List Token)
        → term_in generators demands negative (front ++ token ∷ back) ≡ Ok (first, behind) → suc (length back) ≤ length behind → TermBefore negative front token back beyond first behind
    term-before negative front token back beyond first behind is l =
        let one : TermSpelled all_accepted generators table demands negative (front ++ token ∷ back) behind first = term-spelled all_accepted generators table demands negative (front ++ token ∷ back) behind first is in
        let w = within (term_tokens generators first) behind front (token ∷ back) (sym one.spelled) l in
        let front_is : front ++ token ∷ beyond ≡ term_tokens generators first ++ (w.between ++ token ∷ beyond) = ap (λ f. f ++ token ∷ beyond) w.front_is ∙ append_assoc (term_tokens generators first) w.between (token ∷ beyond) in
        let ends : EndsTree first.tree (w.between ++ token ∷ beyond) = λ b. marked-same 42 w.between token back beyond (subst (NotMarked 42) w.rest_is (one.ends b)) in
        let read = term-read all_accepted generators table demands (front ++ token ∷ beyond) (w.between ++ token ∷ beyond) first front_is one.tree ends in
        record {
          between = w.between;
          behind_is = w.rest_is;
          short = omega (arith, ap length w.front_is, length-append (term_tokens generators first) w.between);
          again = ap (λ (b : Bool). term_in generators demands b (front ++ token ∷ beyond)) (sym one.sign) ∙ read;
        }

    pub term-length : (negative : Bool) (ts behind : List Token) (first : Written) → term_in generators demands negative ts ≡ Ok (first, behind) → length behind < length ts
    term-length negative ts behind first is =
        let one : TermSpelled all_accepted generators table demands negative ts behind first = term-spelled all_accepted generators table demands negative ts behind first is in
        omega (arith, ap length one.spelled, length-append (term_tokens generators first) behind, length-append (coefficient_tokens first.coefficient) (tree_tokens generators first.tree), some_tokens generators first.tree)

    -- ---- further terms

    pub sign-either : (most : ℕ) (negative : Bool) (ts : List Token) (fault : Fault) → behind_sign generators demands most negative ts ≡ Err fault
        → (term_in generators demands negative (behind_one ts) ≡ Err fault) ⊎ TermThenStops negative (behind_one ts) (λ first behind. further_in most generators demands behind ≡ Err fault)
    unfolding behind_sign
    sign-either most negative ts fault e = by_term (term_in generators demands negative (behind_one ts)) refl e
      where
        by_term : (m : Reading Written) → term_in generators demands negative (behind_one ts) ≡ m
            → (m >>= (λ first. further_in most generators demands first.1 >>= (λ others. listed_pair first.0 others))) ≡ Err fault
            → (term_in generators demands negative (behind_one ts) ≡ Err fault) ⊎ TermThenStops negative (behind_one ts) (λ first behind. further_in most generators demands behind ≡ Err fault)
        by_term (Err other) is f = let same : other ≡ fault = cc in inl (is ∙ ap Err same)
        by_term (Ok found) is f = inr (record {
          first = found.0;
          behind = found.1;
          first_is = is;
          others_stop = only_first (further_in most generators demands found.1) (λ (others : List Written × List Token). (found.0 ∷ others.0, others.1)) fault f;
        })

    sign-further-stops : (most : ℕ) (negative : Bool) (ts behind : List Token) (first : Written) (fault : Fault) → term_in generators demands negative (behind_one ts) ≡ Ok (first, behind)
        → further_in most generators demands behind ≡ Err fault → behind_sign generators demands most negative ts ≡ Err fault
    unfolding behind_sign
    sign-further-stops most negative ts behind first fault is stops = rw is (rw stops refl)

    pub none-further : (ts : List Token) (fault : Fault) → further_in 0 generators demands ts ≡ Err fault → ⊥
    unfolding further_in
    none-further ts fault e = cc

    pub further-bounded : (most : ℕ) (ts : List Token) (fault : Fault) → further_in most generators demands ts ≡ Err fault → fault.0 ≤ length ts
    further-bounded zero ts fault e = absurd (none-further ts fault e)
    further-bounded (suc most) ts fault e = by_sign (sign ts) refl (λ behind f. further-bounded most behind fault f)
      where
        by_sign : (o : Option Bool) → sign ts ≡ o → ((behind : List Token) → further_in most generators demands behind ≡ Err fault → fault.0 ≤ length behind) → fault.0 ≤ length ts
        by_sign None none again = let both : ◌≡◌ {A = Reading (List Written)} (Ok ([], ts)) (Err fault) = sym (unsigned generators demands (suc most) ts none) ∙ e in absurd cc
        by_sign (Some negative) is again = ⊎_elim
            (λ term. let l = term-bounded negative (behind_one ts) fault term in omega (arith, l, shorter-one ts))
            (λ (one : TermThenStops negative (behind_one ts) (λ first behind. further_in most generators demands behind ≡ Err fault)).
            let l = again one.behind one.others_stop in omega (arith, l, term-length negative (behind_one ts) one.behind one.first one.first_is, shorter-one ts))
            (sign-either most negative ts fault (sym (signed generators demands most ts negative is) ∙ e))

    -- what is behind a sign is refused with other tokens behind the refused one too
    sign-again : (most other : ℕ) (negative : Bool) (first_token : Token) (front : List Token) (token : Token) (back beyond : List Token) (kind : DocKind) → IsSameBefore token beyond back
        → length (front ++ token ∷ back) ≤ most → length (front ++ token ∷ beyond) ≤ other
        → ((between : List Token) → length (between ++ token ∷ back) ≤ most → length (between ++ token ∷ beyond) ≤ other → further_in most generators demands (between ++ token ∷ back) ≡ Err (suc (length back), kind)
        → further_in other generators demands (between ++ token ∷ beyond) ≡ Err (suc (length beyond), kind))
        → behind_sign generators demands most negative (first_token ∷ (front ++ token ∷ back)) ≡ Err (suc (length back), kind)
        → behind_sign generators demands other negative (first_token ∷ (front ++ token ∷ beyond)) ≡ Err (suc (length beyond), kind)
    sign-again most other negative first_token front token back beyond kind like room space again e = ⊎_elim
        (λ term. sign-stops generators demands other (first_token ∷ (front ++ token ∷ beyond)) negative (suc (length beyond), kind) (term-again negative front token back beyond kind like term))
        (λ (one : TermThenStops negative (front ++ token ∷ back) (λ first behind. further_in most generators demands behind ≡ Err (suc (length back), kind))). later one)
        (sign-either most negative (first_token ∷ (front ++ token ∷ back)) (suc (length back), kind) e)
      where
        later : TermThenStops negative (front ++ token ∷ back) (λ first behind. further_in most generators demands behind ≡ Err (suc (length back), kind))
            → behind_sign generators demands other negative (first_token ∷ (front ++ token ∷ beyond)) ≡ Err (suc (length beyond), kind)
        later one =
            let l = further-bounded most one.behind (suc (length back), kind) one.others_stop in
            let t = term-before negative front token back beyond one.first one.behind one.first_is l in
            let short = t.short in
            let stops = again t.between (omega (arith, room, length-append t.between (token ∷ back), length-append front (token ∷ back)))
            (omega (arith, space, length-append t.between (token ∷ beyond), length-append front (token ∷ beyond))) (ap (further_in most generators demands) (sym t.behind_is) ∙ one.others_stop) in
            sign-further-stops other negative (first_token ∷ (front ++ token ∷ beyond)) (t.between ++ token ∷ beyond) one.first (suc (length beyond), kind) t.again stops

    further-again : (most other : ℕ) (front : List Token) (token : Token) (back beyond : List Token) (kind : DocKind) → IsSameBefore token beyond back
        → length (front ++ token ∷ back) ≤ most → length (front ++ token ∷ beyond) ≤ other → further_in most generators demands (front ++ token ∷ back) ≡ Err (suc (length back), kind)
        → further_in other generators demands (front ++ token ∷ beyond) ≡ Err (suc (length beyond), kind)
    further-again zero other front token back beyond kind like room space e = absurd (omega (arith, room, length-append front (token ∷ back)))
    further-again (suc most) zero front token back beyond kind like room space e = absurd (omega (arith, space, length-append front (token ∷ beyond)))
    further-again (suc most) (suc other) front token back beyond kind like room space e =
        by_sign front (sign (front ++ token ∷ back)) refl room space e (λ between l m f. further-again most other between token back beyond kind like l m f)
      where
        by_sign : (front : List Token) (o : Option Bool) → sign (front ++ token ∷ back) ≡ o → length (front ++ token ∷ back) ≤ suc most → length (front ++ token ∷ beyond) ≤ suc other
            → further_in (suc most) generators demands (front ++ token ∷ back) ≡ Err (suc (length back), kind)
            → ((between : List Token) → length (between ++ token ∷ back) ≤ most → length (between ++ token ∷ beyond) ≤ other → further_in most generators demands (between ++ token ∷ back) ≡ Err (suc (length back), kind)
            → further_in other generators demands (between ++ token ∷ beyond) ≡ Err (suc (length beyond), kind))
            → further_in (suc other) generators demands (front ++ token ∷ beyond) ≡ Err (suc (length beyond), kind)
        by_sign front None none room space e again =
            let both : ◌≡◌ {A = Reading (List Written)} (Ok ([], front ++ token ∷ back)) (Err (suc (length back), kind)) = sym (unsigned generators demands (suc most) (front ++ token ∷ back) none) ∙ e in absurd cc
        by_sign [] (Some negative) is room space e again = absurd (⊎_elim
            (λ term. let l = term-bounded negative back (suc (length back), kind) term in omega (arith, l))
            (λ (one : TermThenStops negative back (λ first behind. further_in most generators demands behind ≡ Err (suc (length back), kind))).
            let l = further-bounded most one.behind (suc (length back), kind) one.others_stop in omega (arith, l, term-length negative back one.behind one.first one.first_is))
            (sign-either most negative (token ∷ back) (suc (length back), kind) (sym (signed generators demands most (token ∷ back) negative is) ∙ e)))
        by_sign (x ∷ front) (Some negative) is room space e again =
            let stops = sign-again most other negative x front token back beyond kind like (omega (arith, room)) (omega (arith, space)) again
            (sym (signed generators demands most (x ∷ (front ++ token ∷ back)) negative is) ∙ e) in
            signed generators demands other (x ∷ (front ++ token ∷ beyond)) negative (sym (sign-same (x ∷ front) token back beyond) ∙ is) ∙ stops

  -- ---- elements

  module _ (least : ℕ) (arity : Option ℕ) where
    abbrev asked : Demands
    asked = demands_of least arity

    abbrev asked_of : Tree ℕ → Demands
    asked_of t = demands_of least (Some (leaf_count t))

    abbrev pub FirstThenStops : Bool → List Token → Fault → Type 0
    FirstThenStops negative ts fault = TermThenStops asked negative ts (λ first behind. further_in (length behind) generators (asked_of first.tree) behind ≡ Err fault)

    pub first-either : (negative : Bool) (ts : List Token) (fault : Fault) → from_first generators least arity negative ts ≡ Err fault → (term_in generators asked negative ts ≡ Err fault) ⊎ FirstThenStops negative ts fault
    unfolding from_first
    first-either negative ts fault e = by_term (term_in generators asked negative ts) refl e
      where
        by_term : (m : Reading Written) → term_in generators asked negative ts ≡ m
            → (m >>= (λ first. further_in (length first.1) generators (asked_of (first.0).tree) first.1 >>= (λ others. listed_pair first.0 others))) ≡ Err fault
            → (term_in generators asked negative ts ≡ Err fault) ⊎ FirstThenStops negative ts fault
        by_term (Err other) is f = let same : other ≡ fault = cc in inl (is ∙ ap Err same)
        by_term (Ok found) is f = inr (record {
          first = found.0;
          behind = found.1;
          first_is = is;
          others_stop = only_first (further_in (length found.1) generators (asked_of (found.0).tree) found.1) (λ (others : List Written × List Token). (found.0 ∷ others.0, others.1)) fault f;
        })

    pub first-bounded : (negative : Bool) (ts : List Token) (fault : Fault) → from_first generators least arity negative ts ≡ Err fault → fault.0 ≤ length ts
    first-bounded negative ts fault e = ⊎_elim
        (λ term. term-bounded asked negative ts fault term)
        (λ (one : FirstThenStops negative ts fault).
        let l = further-bounded (asked_of one.first.tree) (length one.behind) one.behind fault one.others_stop in omega (arith, l, term-length asked negative ts one.behind one.first one.first_is))
        (first-either negative ts fault e)

    first-again : (negative : Bool) (front : List Token) (token : Token) (back beyond : List Token) (kind : DocKind) → IsSameBefore token beyond back
        → from_first generators least arity negative (front ++ token ∷ back) ≡ Err (suc (length back), kind) → from_first generators least arity negative (front ++ token ∷ beyond) ≡ Err (suc (length beyond), kind)
    first-again negative front token back beyond kind like e = ⊎_elim
        (λ term. first-stops generators least arity (front ++ token ∷ beyond) negative (suc (length beyond), kind) (term-again asked negative front token back beyond kind like term))
        (λ (one : FirstThenStops negative (front ++ token ∷ back) (suc (length back), kind)). later one)
        (first-either negative (front ++ token ∷ back) (suc (length back), kind) e)
      where
        later : FirstThenStops negative (front ++ token ∷ back) (suc (length back), kind) → from_first generators least arity negative (front ++ token ∷ beyond) ≡ Err (suc (length beyond), kind)
        later one =
            let demands = asked_of one.first.tree in
            let l = further-bounded demands (length one.behind) one.behind (suc (length back), kind) one.others_stop in
            let t = term-before asked negative front token back beyond one.first one.behind one.first_is l in
            let stops = further-again demands (length one.behind) (length (t.between ++ token ∷ beyond)) t.between token back beyond kind like (omega (arith, ap length t.behind_is)) (omega arith)
            (ap (further_in (length one.behind) generators demands) (sym t.behind_is) ∙ one.others_stop) in
            further-stops generators least arity (front ++ token ∷ beyond) (t.between ++ token ∷ beyond) negative one.first (suc (length beyond), kind) t.again stops

    element-again : (front : List Token) (token : Token) (back beyond : List Token) (kind : DocKind) → IsSameBefore token beyond back
        → element_in generators asked (front ++ token ∷ back) ≡ Err (suc (length back), kind) → element_in generators asked (front ++ token ∷ beyond) ≡ Err (suc (length beyond), kind)
    element-again front token back beyond kind like e = by_nothing (is_nothing (front ++ token ∷ back)) refl
      where
        by_minus : (front : List Token) (negative : Bool) → negative ≡ begins_with 45 (front ++ token ∷ back) → is_nothing (front ++ token ∷ back) ≡ false → is_nothing (front ++ token ∷ beyond) ≡ false
            → element_in generators asked (front ++ token ∷ back) ≡ Err (suc (length back), kind) → element_in generators asked (front ++ token ∷ beyond) ≡ Err (suc (length beyond), kind)
        by_minus front false minus other same e =
            let first = sym (first-is generators least arity (front ++ token ∷ back) (front ++ token ∷ back) false other minus refl) ∙ e in
            first-is generators least arity (front ++ token ∷ beyond) (front ++ token ∷ beyond) false same (minus ∙ begins-same 45 front token back beyond) refl
            ∙ first-again false front token back beyond kind like first
        by_minus [] true minus other same e =
            let l = first-bounded true back (suc (length back), kind) (sym (first-is generators least arity (token ∷ back) back true other minus refl) ∙ e) in absurd (omega (arith, l))
        by_minus (x ∷ front) true minus other same e =
            let first = sym (first-is generators least arity (x ∷ (front ++ token ∷ back)) (front ++ token ∷ back) true other minus refl) ∙ e in
            first-is generators least arity (x ∷ (front ++ token ∷ beyond)) (front ++ token ∷ beyond) true same (minus ∙ begins-same 45 (x ∷ front) token back beyond) refl
            ∙ first-again true front token back beyond kind like first

        by_nothing : (b : Bool) → is_nothing (front ++ token ∷ back) ≡ b → element_in generators asked (front ++ token ∷ beyond) ≡ Err (suc (length beyond), kind)
        by_nothing true is =
            let both : ◌≡◌ {A = Reading (List Written)} (Ok ([], behind_one (front ++ token ∷ back))) (Err (suc (length back), kind)) = sym (nothing-is generators least arity (front ++ token ∷ back) is) ∙ e in absurd cc
        by_nothing false other = by_minus front (begins_with 45 (front ++ token ∷ back)) refl other (nothing-same front token back beyond like ∙ other) e

    -- the tokens of an element alone are read
    alone : (terms : List Written) → AreDemanded generators least arity terms → element_in generators asked (element_tokens generators terms) ≡ Ok (terms, [])
    alone terms demanded = (elements_accepted all_accepted generators table least arity (element_tokens generators terms) [] terms).1 (sym (append-nil (element_tokens generators terms)), demanded, ends terms)
      where
        ends : (terms : List Written) → EndsBefore terms []
        ends [] = tt
        ends (term ∷ terms) = (tt, tt, λ _. tt)

    -- the tokens of an element as demanded aren't refused
    demanded-read : (terms : List Written) (fault : Fault) → AreDemanded generators least arity terms → element_in generators asked (element_tokens generators terms) ≡ Err fault → ⊥
    demanded-read terms fault demanded e =
        let both : ◌≡◌ {A = Reading (List Written)} (Ok (terms, [])) (Err fault) = sym (alone terms demanded) ∙ e in absurd cc

  -- ---- trees that are ruled out, whatever is asked of them

  module _ (demands : Demands) (kind : DocKind) (t : Tree ℕ) (ruled : IsRuledOut generators demands kind t) where
    -- the tokens of the tree are refused for another reason
    tree-refused : (left : ℕ) (rest : List Token) → EndsTree t rest → whole_tree_in generators demands (tree_tokens generators t ++ rest) ≡ Err (left, kind) → ⊥
    tree-refused left rest ends e = ⊎_elim
        (λ inside. breaks_ruled generators demands kind t ruled other
        (subst (λ m. IsReadOrBreaks 8 (nested t) (0 + leaf_count t) m t rest) inside (tree_or_breaks generators table t 8 0 rest (fits_ruled generators demands kind t ruled) (λ is. unmarked 42 rest (ends is)))))
        (λ (j : IsJudged generators demands (tree_tokens generators t ++ rest) left kind).
        first_of_three (not demands.loose && not (has_each (leaf_count j.tree) j.tree)) (nat_lt (leaf_count j.tree) demands.least) (differs demands.arity (leaf_count j.tree)) kind j.row
        (λ k. IsRuledOut generators demands k t) other other other ruled)
        (stopped generators demands (tree_tokens generators t ++ rest) left kind e)
      where
        other : IsDemanded generators demands t → ⊥
        other demanded =
            let accepted : whole_tree_in generators demands (tree_tokens generators t ++ rest) ≡ Ok (t, rest) = (all_accepted generators table demands (tree_tokens generators t ++ rest) rest t).1 (refl, demanded, ends) in
            let both : ◌≡◌ {A = Reading (Tree ℕ)} (Ok (t, rest)) (Err (left, kind)) = sym accepted ∙ e in absurd cc

  -- ---- terms of such trees

  abbrev IsRuled : DocKind → Written → Type 0
  IsRuled kind term = (demands : Demands) → IsRuledOut generators demands kind term.tree

  module _ (demands : Demands) (negative : Bool) (kind : DocKind) (term : Written) (ruled : IsRuled kind term) (rest : List Token) (ends : EndsTree term.tree rest) where
    abbrev whole : List Token
    whole = term_tokens generators term ++ rest

    number : coefficient whole ≡ term.coefficient
    number = coefficient-is generators term.coefficient term.tree rest ends

    term-refused : (left : ℕ) → term_in generators demands negative whole ≡ Err (left, kind) → ⊥
    term-refused left e =
        let tree = term-by-tree demands negative whole (left, kind) e in
        let front : behind_coefficient (coefficient whole) whole ≡ tree_tokens generators term.tree ++ rest = ap (λ (c : Option ℕ). behind_coefficient c whole) number ∙ behind-is generators term.coefficient term.tree rest in
        tree-refused demands kind term.tree (ruled demands) left rest ends (ap (whole_tree_in generators demands) (sym front) ∙ tree)

    term-rest : (found : Written) (behind : List Token) → term_in generators demands negative whole ≡ Ok (found, behind) → behind ≡ rest
    term-rest found behind e =
        let one : TermSpelled all_accepted generators table demands negative whole behind found = term-spelled all_accepted generators table demands negative whole behind found e in
        let c : term.coefficient ≡ found.coefficient = sym number ∙ ap coefficient one.spelled ∙ coefficient-is generators found.coefficient found.tree behind one.ends in
        let trees : tree_tokens generators term.tree ++ rest ≡ tree_tokens generators found.tree ++ behind = sym (behind-is generators term.coefficient term.tree rest)
        ∙ ap (behind_coefficient term.coefficient) one.spelled ∙ ap (λ (d : Option ℕ). behind_coefficient d (term_tokens generators found ++ behind)) c ∙ behind-is generators found.coefficient found.tree behind in
        sym (read_once generators table term.tree found.tree rest behind (fits_ruled generators demands kind term.tree (ruled demands)) one.tree.fits trees).1

  further-refused : (demands : Demands) (kind : DocKind) (terms : List Written) → All (IsRuled kind) terms → (most left : ℕ) → further_in most generators demands (further_tokens generators terms) ≡ Err (left, kind) → ⊥
  further-refused demands kind [] all most left e =
      let both : ◌≡◌ {A = Reading (List Written)} (Ok ([], [])) (Err (left, kind)) = sym (unsigned generators demands most [] refl) ∙ e in absurd cc
  further-refused demands kind (term ∷ terms) all zero left e = none-further demands (further_tokens generators (term ∷ terms)) (left, kind) e
  further-refused demands kind (term ∷ terms) all (suc most) left e =
      let behind = further_tokens generators terms in
      let ruled : IsRuled kind term = All-head (IsRuled kind) term terms all in
      let ends : EndsTree term.tree behind = λ _. further-no-star generators terms in
      ⊎_elim
      (λ first. term-refused demands term.negative kind term ruled behind ends left first)
      (λ (one : TermThenStops demands term.negative (term_tokens generators term ++ behind) (λ first others. further_in most generators demands others ≡ Err (left, kind))).
      further-refused demands kind terms (All-tail (IsRuled kind) term terms all) most left
      (ap (further_in most generators demands) (sym (term-rest demands term.negative kind term ruled behind ends one.first one.behind one.first_is)) ∙ one.others_stop))
      (sign-either demands most term.negative (further_tokens generators (term ∷ terms)) (left, kind)
      (sym (signed generators demands most (further_tokens generators (term ∷ terms)) term.negative (sign-is term.negative (term_tokens generators term ++ behind))) ∙ e))

  module _ (least : ℕ) (arity : Option ℕ) where
    element-refused : (kind : DocKind) (terms : List Written) → All (IsRuled kind) terms → (left : ℕ) → element_in generators (demands_of least arity) (element_tokens generators terms) ≡ Err (left, kind) → ⊥
    element-refused kind [] all left e =
        let both : ◌≡◌ {A = Reading (List Written)} (Ok ([], [])) (Err (left, kind)) = sym (nothing-is generators least arity (element_tokens generators []) (nothing-there [] tt)) ∙ e in absurd cc
    element-refused kind (term ∷ terms) all left e = by_nothing (is_nothing (element_tokens generators (term ∷ terms))) refl
      where
        behind : List Token
        behind = further_tokens generators terms

        ruled : IsRuled kind term
        ruled = All-head (IsRuled kind) term terms all

        ends : EndsTree term.tree behind
        ends _ = further-no-star generators terms

        by_nothing : (b : Bool) → is_nothing (element_tokens generators (term ∷ terms)) ≡ b → ⊥
        by_nothing true is =
            let both : ◌≡◌ {A = Reading (List Written)} (Ok ([], behind_one (element_tokens generators (term ∷ terms)))) (Err (left, kind)) = sym (nothing-is generators least arity (element_tokens generators (term ∷ terms)) is) ∙ e in absurd cc
        by_nothing false other = ⊎_elim
            (λ first. term-refused (demands_of least arity) term.negative kind term ruled behind ends left first)
            (λ (one : FirstThenStops least arity term.negative (term_tokens generators term ++ behind) (left, kind)).
            further-refused (asked_of least arity one.first.tree) kind terms (All-tail (IsRuled kind) term terms all) (length one.behind) left
            (ap (further_in (length one.behind) generators (asked_of least arity one.first.tree)) (sym (term-rest (demands_of least arity) term.negative kind term ruled behind ends one.first one.behind one.first_is)) ∙ one.others_stop))
            (first-either least arity term.negative (term_tokens generators term ++ behind) (left, kind)
            (sym (first-is generators least arity (element_tokens generators (term ∷ terms)) (term_tokens generators term ++ behind) term.negative other
            (minus-there generators term.negative term.coefficient term.tree behind) (minus-behind term.negative (term_tokens generators term ++ behind))) ∙ e))

    -- an element that is ruled out is as demanded, or has such trees
    either_ruled : (kind : DocKind) (terms : List Written) → AreRuledOut generators least arity kind terms → AreDemanded generators least arity terms ⊎ All (IsRuled kind) terms
    either_ruled Syntax terms h = inr (All-weaker (λ (x : Written). Fits generators x.tree) (IsRuled Syntax) (λ x f demands. f) terms h)
    either_ruled NumberLong terms h = inr (All-weaker (λ (x : Written). Fits generators x.tree) (IsRuled NumberLong) (λ x f demands. f) terms h)
    either_ruled NameUnknown terms h = inr (All-weaker (λ (x : Written). Fits generators x.tree) (IsRuled NameUnknown) (λ x f demands. f) terms h)
    either_ruled InputCount terms h = inr (All-weaker (λ (x : Written). Fits generators x.tree) (IsRuled InputCount) (λ x f demands. f) terms h)
    either_ruled TooDeep terms h = inr (All-weaker (λ (x : Written). Fits generators x.tree × (nested x.tree ≤ 8)) (IsRuled TooDeep) (λ x f demands. f) terms h)
    either_ruled TooWide terms h = inr (All-weaker (λ (x : Written). Fits generators x.tree × (leaf_count x.tree ≤ 9)) (IsRuled TooWide) (λ x f demands. f) terms h)
    either_ruled kind terms h = inl h

    ruled-read : (kind : DocKind) (terms : List Written) → AreRuledOut generators least arity kind terms → (left : ℕ) → element_in generators (demands_of least arity) (element_tokens generators terms) ≡ Err (left, kind) → ⊥
    ruled-read kind terms h left e = ⊎_elim (λ demanded. demanded-read least arity terms (left, kind) demanded e) (λ all. element-refused kind terms all left e) (either_ruled kind terms h)

pub refused_rightly : ElementsAreRefusedRightly
refused_rightly generators table least arity front [] kind e terms ruled goes =
    ruled-read generators table least arity kind terms ruled 0 (ap (element_in generators (demands_of least arity)) (goes ∙ sym (append-nil front)) ∙ e)
refused_rightly generators table least arity front (token ∷ back) kind e terms ruled goes =
    ruled-read generators table least arity kind terms ruled (suc (length goes.0))
    (ap (element_in generators (demands_of least arity)) goes.1 ∙ element-again generators table least arity front token back goes.0 kind goes.2 e)
