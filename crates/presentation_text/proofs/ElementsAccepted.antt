-- Which elements reading accepts: those of the grammar that go on as long as they can.
use Rattle.std.proofs.Common.{◌≡◌, ℕ, zero, suc, ◌<◌, ◌≤◌, Bool, true, false, List, [], ◌∷◌, ◌++◌, length, Option, Some, None, Ok, refl, ap, sym, ◌∙◌, subst, arith, append_assoc, length-append}
use Rattle.std.specs.Prelude.{if◌then◌else◌}
use Rattle.std.specs.List.{All}
use Rattle.std.proofs.lemmas.List.Elements.{All-nil, All-cons, All-head, All-tail, All-weaker}
use Rattle.labelled_trees.specs.Trees.{Tree}
use Rattle.labelled_trees.specs.Leaves.{AllLeaves, leaf_count}
use Rattle.labelled_trees.specs.Labelled.{IsNumbered}
use Rattle.labelled_trees.proofs.Counts.{leaf_count-labelled}
use Rattle.labelled_trees.proofs.Leaves.{by_leaf}
use Rattle.labelled_trees.proofs.Numbered.{labelled_of_numbered, numbered_of_labelled}
use Rattle.symmetric_trees.specs.Generators.{IsTable}
use Rattle.symmetric_trees.specs.declared.generators.Generator.{Generator}
use Rattle.presentation_text.specs.declared.lexing.Token.{Token}
use Rattle.presentation_text.specs.declared.lexing.Token.TheVariants.{Byte}
use Rattle.presentation_text.specs.declared.trees.Demands.{Demands}
use Rattle.presentation_text.specs.Readings.{Reading, ◌>>=◌}
use Rattle.presentation_text.specs.TreeReadings.{begins_with, demands_of, whole_tree_in}
use Rattle.presentation_text.specs.TreeText.{tree_tokens}
use Rattle.presentation_text.specs.Elements.{Written, coefficient_tokens, term_tokens, mark, further_tokens, element_tokens, IsElementTree}
use Rattle.presentation_text.specs.ElementReadings.{behind_one, is_nothing, coefficient, behind_coefficient, term_in, sign, further_in, element_in}
use Rattle.presentation_text.specs.Accepted.{IsDemanded, TreesAreAccepted, NotMarked, is_leaf, EndsTree, ends_in_leaf, EndsBefore, HaveDemandedArity, AreDemanded, ElementsAreAccepted}
use Rattle.presentation_text.proofs.TreesAcceptedTrees.{bound}
use Rattle.presentation_text.proofs.ElementReadingsFurther.{behind_sign, signed, unsigned}
use Rattle.presentation_text.proofs.ElementReadingsWhole.{from_first, first-is, nothing-is, further-reads}
use Rattle.presentation_text.proofs.ElementFronts.{coefficient-spelled, coefficient-is, behind-is, sign-spelled, sign-is, no-sign, unsigned-ends, sign-no-star, nothing-spelled, nothing-there, something-there, minus-there, minus-behind, minus-spelled}

-- ---- readings

abbrev read_pair : {X : Type 0} → X × List Token → Reading X
read_pair found = Ok found

abbrev read : {X : Type 0} → X → List Token → Reading X
read x rest = read_pair (x, rest)

same-pair : {X : Type 0} (p q : X × List Token) → read_pair p ≡ read_pair q → p ≡ q
same-pair p q e = cc

same-read : {X : Type 0} (x y : X) (a b : List Token) → read x a ≡ read y b → (x ≡ y) × (a ≡ b)
same-read {X = X} x y a b e =
    let pair = same-pair (x, a) (y, b) e in
    (ap (λ (p : X × List Token). p.0) pair, ap (λ (p : X × List Token). p.1) pair)

-- ---- trees of elements

positive : (generators : List Generator) (n : ℕ) (t : Tree ℕ) → IsElementTree generators n t → AllLeaves t (λ i. 0 < i)
positive generators n t h = by_leaf t (λ i. 0 < i) (λ i l. (h.labelled.only i l).0)

element_tree : (generators : List Generator) (demands : Demands) (t : Tree ℕ) → demands.loose ≡ false → IsDemanded generators demands t → IsElementTree generators (leaf_count t) t
element_tree generators demands t strict h = record { labelled = labelled_of_numbered h.fits (h.numbered strict); narrow = h.narrow; shallow = h.shallow }

demanded : (generators : List Generator) (demands : Demands) (n : ℕ) (t : Tree ℕ) → IsElementTree generators n t → demands.least ≤ n → ((m : ℕ) → demands.arity ≡ Some m → n ≡ m) → IsDemanded generators demands t
demanded generators demands n t h least arity =
    let count : leaf_count t ≡ n = leaf_count-labelled _ n t h.labelled in
    record {
      fits = h.labelled.fits;
      shallow = h.shallow;
      narrow = subst (λ k. k ≤ 9) (sym count) h.narrow;
      small = by_leaf t (λ i. i ≤ 99) (λ i l. let low = (h.labelled.only i l).1 in let narrow = h.narrow in omega arith);
      numbered = λ strict. subst (λ k. IsNumbered k t) (sym count) (numbered_of_labelled h.labelled);
      least = subst (λ k. demands.least ≤ k) (sym count) least;
      arity = λ m known. count ∙ arity m known;
    }

-- ---- terms

module _ (trees : TreesAreAccepted) (generators : List Generator) (table : IsTable generators) where
  module _ (demands : Demands) where
    -- A term that was read, and what stands behind it.
    pub record TermSpelled (negative : Bool) (ts rest : List Token) (term : Written) : Type 0 where
      pub sign : term.negative ≡ negative
      pub spelled : ts ≡ term_tokens generators term ++ rest
      pub tree : IsDemanded generators demands term.tree
      pub ends : EndsTree term.tree rest

    abbrev term_as : Bool → Option ℕ → Tree ℕ → Written
    term_as negative c t = record { negative = negative; coefficient = c; tree = t }

    term-of : (negative : Bool) (ts rest : List Token) (t : Tree ℕ) → whole_tree_in generators demands (behind_coefficient (coefficient ts) ts) ≡ Ok (t, rest) → TermSpelled negative ts rest (term_as negative (coefficient ts) t)
    term-of negative ts rest t is =
        let front = behind_coefficient (coefficient ts) ts in
        let accepted = (trees generators table demands front rest t).0 is in
        record {
          sign = refl;
          spelled = coefficient-spelled ts ∙ ap (λ r. coefficient_tokens (coefficient ts) ++ r) accepted.0 ∙ sym (append_assoc (coefficient_tokens (coefficient ts)) (tree_tokens generators t) rest);
          tree = accepted.1;
          ends = accepted.2;
        }

    pub term-spelled : (negative : Bool) (ts rest : List Token) (term : Written) → term_in generators demands negative ts ≡ Ok (term, rest) → TermSpelled negative ts rest term
    unfolding term_in
    term-spelled negative ts rest term e =
        let both = bound (whole_tree_in generators demands (behind_coefficient (coefficient ts) ts)) (λ found. read (term_as negative (coefficient ts) found.0) found.1) (term, rest) e in
        let same = same-read (term_as negative (coefficient ts) both.value.0) term both.value.1 rest both.further in
        let first = term-of negative ts both.value.1 both.value.0 both.first in
        subst (λ x. TermSpelled negative ts x term) same.1 (subst (TermSpelled negative ts both.value.1) same.0 first)

    pub term-read : (ts rest : List Token) (term : Written) → ts ≡ term_tokens generators term ++ rest → IsDemanded generators demands term.tree
        → EndsTree term.tree rest → term_in generators demands term.negative ts ≡ Ok (term, rest)
    unfolding term_in
    term-read ts rest term spelled tree ends =
        let c : coefficient ts ≡ term.coefficient = ap coefficient spelled ∙ coefficient-is generators term.coefficient term.tree rest ends in
        let behind : behind_coefficient term.coefficient ts ≡ tree_tokens generators term.tree ++ rest = ap (behind_coefficient term.coefficient) spelled ∙ behind-is generators term.coefficient term.tree rest in
        let is : whole_tree_in generators demands (behind_coefficient term.coefficient ts) ≡ Ok (term.tree, rest) = (trees generators table demands (behind_coefficient term.coefficient ts) rest term.tree).1 (behind, tree, ends) in
        rw c (rw is refl)

    -- ---- further terms

    -- Further terms that were read, and what stands behind them.
    pub record FurtherSpelled (ts rest : List Token) (terms : List Written) : Type 0 where
      pub spelled : ts ≡ further_tokens generators terms ++ rest
      pub all_demanded : All (λ term. IsDemanded generators demands term.tree) terms
      pub ends : NotMarked 43 rest × NotMarked 45 rest
      pub unstarred : (b : Bool) → (b ≡ true → NotMarked 42 ts) → ends_in_leaf b terms ≡ true → NotMarked 42 rest

    no-further : (ts : List Token) → sign ts ≡ None → FurtherSpelled ts ts []
    no-further ts none = record {
      spelled = refl;
      all_demanded = All-nil (λ (term : Written). IsDemanded generators demands term.tree);
      ends = unsigned-ends ts none;
      unstarred = λ b first is. first is;
    }

    one-further : (negative : Bool) (ts behind rest : List Token) (term : Written) (terms : List Written) → sign ts ≡ Some negative → TermSpelled negative (behind_one ts) behind term
        → FurtherSpelled behind rest terms → FurtherSpelled ts rest (term ∷ terms)
    one-further negative ts behind rest term terms is first others = record {
      spelled = sign-spelled ts negative is ∙ ap (λ b. mark b ∷ behind_one ts) (sym first.sign)
          ∙ ap (λ r. mark term.negative ∷ r) (first.spelled ∙ ap (λ r. term_tokens generators term ++ r) others.spelled ∙ sym (append_assoc (term_tokens generators term) (further_tokens generators terms) rest));
      all_demanded = All-cons (λ (x : Written). IsDemanded generators demands x.tree) term terms first.tree others.all_demanded;
      ends = others.ends;
      unstarred = λ b _. others.unstarred (is_leaf term.tree) first.ends;
    }

    -- a term behind a sign, and the terms behind it, that were read
    record SignRead (most : ℕ) (negative : Bool) (ts rest : List Token) (terms : List Written) : Type 0 where
      first : Written
      behind : List Token
      others : List Written
      first_is : term_in generators demands negative (behind_one ts) ≡ Ok (first, behind)
      others_are : further_in most generators demands behind ≡ Ok (others, rest)
      terms_are : first ∷ others ≡ terms

    sign-read : (most : ℕ) (negative : Bool) (ts rest : List Token) (terms : List Written) → behind_sign generators demands most negative ts ≡ Ok (terms, rest) → SignRead most negative ts rest terms
    unfolding behind_sign
    sign-read most negative ts rest terms e =
        let one = bound (term_in generators demands negative (behind_one ts))
        (λ first. further_in most generators demands first.1 >>= (λ others. read (first.0 ∷ others.0) others.1)) (terms, rest) e in
        let two = bound (further_in most generators demands one.value.1) (λ others. read (one.value.0 ∷ others.0) others.1) (terms, rest) one.further in
        let same = same-read (one.value.0 ∷ two.value.0) terms two.value.1 rest two.further in
        record {
          first = one.value.0;
          behind = one.value.1;
          others = two.value.0;
          first_is = one.first;
          others_are = two.first ∙ ap (λ r. read two.value.0 r) same.1;
          terms_are = same.0;
        }

    sign-of-none : (ts : List Token) → length ts ≤ 0 → sign ts ≡ None
    sign-of-none [] l = refl
    sign-of-none (token ∷ ts) l = absurd (omega arith)

    ends-at : (ts rest : List Token) (terms : List Written) → sign ts ≡ None → read [] ts ≡ read terms rest → FurtherSpelled ts rest terms
    ends-at ts rest terms none e =
        let same = same-read [] terms ts rest e in
        subst (λ r. FurtherSpelled ts r terms) same.1 (subst (FurtherSpelled ts ts) same.0 (no-further ts none))

    shorter : (ts behind : List Token) (negative : Bool) (term : Written) (most : ℕ) → sign ts ≡ Some negative → TermSpelled negative (behind_one ts) behind term → length ts ≤ suc most → length behind ≤ most
    shorter ts behind negative term most is first room =
        omega (arith, room, ap length (sign-spelled ts negative is), ap length first.spelled, length-append (term_tokens generators term) behind)

    pub further-spelled : (most : ℕ) (ts rest : List Token) (terms : List Written) → length ts ≤ most → further_in most generators demands ts ≡ Ok (terms, rest) → FurtherSpelled ts rest terms
    further-spelled zero ts rest terms room e = let none = sign-of-none ts room in ends-at ts rest terms none (sym (unsigned generators demands 0 ts none) ∙ e)
    further-spelled (suc most) ts rest terms room e = by_sign (sign ts) refl (λ behind others l is. further-spelled most behind rest others l is)
      where
        by_sign : (o : Option Bool) → sign ts ≡ o → ((behind : List Token) (others : List Written) → length behind ≤ most → further_in most generators demands behind ≡ Ok (others, rest) → FurtherSpelled behind rest others)
            → FurtherSpelled ts rest terms
        by_sign None none again = ends-at ts rest terms none (sym (unsigned generators demands (suc most) ts none) ∙ e)
        by_sign (Some negative) is again =
            let goes = sign-read most negative ts rest terms (sym (signed generators demands most ts negative is) ∙ e) in
            let first = term-spelled negative (behind_one ts) goes.behind goes.first goes.first_is in
            let others = again goes.behind goes.others (shorter ts goes.behind negative goes.first most is first room) goes.others_are in
            subst (FurtherSpelled ts rest) goes.terms_are (one-further negative ts goes.behind rest goes.first goes.others is first others)

    -- what stands behind a term that isn't the last one
    unstarred-behind : (b : Bool) (terms : List Written) (rest : List Token) → (ends_in_leaf b terms ≡ true → NotMarked 42 rest) → b ≡ true → NotMarked 42 (further_tokens generators terms ++ rest)
    unstarred-behind b [] rest ends is = ends is
    unstarred-behind b (term ∷ terms) rest ends is = sign-no-star term.negative ((term_tokens generators term ++ further_tokens generators terms) ++ rest)

    sign-reads-on : (most : ℕ) (negative : Bool) (ts behind rest : List Token) (term : Written) (terms : List Written) → term_in generators demands negative (behind_one ts) ≡ Ok (term, behind)
        → further_in most generators demands behind ≡ Ok (terms, rest) → behind_sign generators demands most negative ts ≡ Ok (term ∷ terms, rest)
    unfolding behind_sign
    sign-reads-on most negative ts behind rest term terms first others = rw first (rw others refl)

    pub further-read : (terms : List Written) (most : ℕ) (ts rest : List Token) (b : Bool) → length ts ≤ most → ts ≡ further_tokens generators terms ++ rest
        → All (λ term. IsDemanded generators demands term.tree) terms → NotMarked 43 rest → NotMarked 45 rest → (ends_in_leaf b terms ≡ true → NotMarked 42 rest)
        → further_in most generators demands ts ≡ Ok (terms, rest)
    further-read [] most ts rest b room spelled all plus minus ends =
        unsigned generators demands most ts (ap sign spelled ∙ no-sign rest plus minus) ∙ ap (λ r. read [] r) spelled
    further-read (term ∷ terms) zero ts rest b room spelled all plus minus ends = absurd (omega (arith, room, ap length spelled))
    further-read (term ∷ terms) (suc most) ts rest b room spelled all plus minus ends =
        let behind = further_tokens generators terms ++ rest in
        let alone = is_leaf term.tree in
        let is : sign ts ≡ Some term.negative = ap sign spelled ∙ sign-is term.negative ((term_tokens generators term ++ further_tokens generators terms) ++ rest) in
        let front : behind_one ts ≡ term_tokens generators term ++ behind = ap behind_one spelled ∙ append_assoc (term_tokens generators term) (further_tokens generators terms) rest in
        let first = term-read (behind_one ts) behind term front (All-head (λ (x : Written). IsDemanded generators demands x.tree) term terms all) (unstarred-behind alone terms rest ends) in
        let left : length behind ≤ most = omega (arith, room, ap length (sign-spelled ts term.negative is), ap length front, length-append (term_tokens generators term) behind) in
        let others = further-read terms most behind rest alone left refl (All-tail (λ (x : Written). IsDemanded generators demands x.tree) term terms all) plus minus ends in
        signed generators demands most ts term.negative is ∙ sign-reads-on most term.negative ts behind rest term terms first others

  -- ---- elements

  module _ (least : ℕ) (arity : Option ℕ) where
    abbrev asked : Demands
    asked = demands_of least arity

    abbrev asked_of : Tree ℕ → Demands
    asked_of t = demands_of least (Some (leaf_count t))

    record FirstRead (negative : Bool) (ts rest : List Token) (terms : List Written) : Type 0 where
      first : Written
      behind : List Token
      others : List Written
      first_is : term_in generators asked negative ts ≡ Ok (first, behind)
      others_are : further_in (length behind) generators (asked_of first.tree) behind ≡ Ok (others, rest)
      terms_are : first ∷ others ≡ terms

    first-read : (negative : Bool) (ts rest : List Token) (terms : List Written) → from_first generators least arity negative ts ≡ Ok (terms, rest) → FirstRead negative ts rest terms
    unfolding from_first
    first-read negative ts rest terms e =
        let one = bound (term_in generators asked negative ts)
        (λ first. further_in (length first.1) generators (asked_of (first.0).tree) first.1 >>= (λ others. read (first.0 ∷ others.0) others.1)) (terms, rest) e in
        let two = bound (further_in (length one.value.1) generators (asked_of (one.value.0).tree) one.value.1) (λ others. read (one.value.0 ∷ others.0) others.1) (terms, rest) one.further in
        let same = same-read (one.value.0 ∷ two.value.0) terms two.value.1 rest two.further in
        record {
          first = one.value.0;
          behind = one.value.1;
          others = two.value.0;
          first_is = one.first;
          others_are = two.first ∙ ap (λ r. read two.value.0 r) same.1;
          terms_are = same.0;
        }

    -- what a list of terms that is read must be
    abbrev IsAccepted : List Token → List Token → List Written → Type 0
    IsAccepted ts rest terms = (ts ≡ element_tokens generators terms ++ rest) × AreDemanded generators least arity terms × EndsBefore terms rest

    nothing-accepted : (ts : List Token) → is_nothing ts ≡ true → IsAccepted ts (behind_one ts) []
    nothing-accepted ts is = let zero_is = nothing-spelled ts is in (zero_is.0, tt, zero_is.1)

    same_tree : (first : Written) (t : Tree ℕ) → IsDemanded generators (asked_of first.tree) t → IsElementTree generators (leaf_count first.tree) t
    same_tree first t h = subst (λ n. IsElementTree generators n t) (h.arity (leaf_count first.tree) refl) (element_tree generators (asked_of first.tree) t refl h)

    terms-accepted : (negative : Bool) (ts front behind rest : List Token) (first : Written) (others : List Written) → ts ≡ (if negative then Byte 45 ∷ [] else []) ++ front
        → TermSpelled asked negative front behind first → FurtherSpelled (asked_of first.tree) behind rest others → IsAccepted ts rest (first ∷ others)
    terms-accepted negative ts front behind rest first others minus one more =
        let sign : List Token = if first.negative then Byte 45 ∷ [] else [] in
        let whole = term_tokens generators first in
        let further = further_tokens generators others in (
          minus ∙ ap (λ b. (if b then Byte 45 ∷ [] else []) ++ front) (sym one.sign) ∙ ap (λ r. sign ++ r) (one.spelled ∙ ap (λ r. whole ++ r) more.spelled ∙ sym (append_assoc whole further rest))
              ∙ sym (append_assoc sign (whole ++ further) rest),
          record {
            n = leaf_count first.tree;
            trees = All-cons (λ (x : Written). IsElementTree generators (leaf_count first.tree) x.tree) first others (element_tree generators asked first.tree refl one.tree)
                (All-weaker (λ (x : Written). IsDemanded generators (asked_of first.tree) x.tree) (λ (x : Written). IsElementTree generators (leaf_count first.tree) x.tree) (λ x h. same_tree first x.tree h) others more.all_demanded);
            least_is = one.tree.least;
            arity_is = one.tree.arity;
          },
          (more.ends.0, more.ends.1, more.unstarred (is_leaf first.tree) one.ends),
        )

    pub accepted : (ts rest : List Token) (terms : List Written) → element_in generators asked ts ≡ Ok (terms, rest) → IsAccepted ts rest terms
    accepted ts rest terms e = by_nothing (is_nothing ts) refl
      where
        by_nothing : (b : Bool) → is_nothing ts ≡ b → IsAccepted ts rest terms
        by_nothing true is =
            let same = same-read [] terms (behind_one ts) rest (sym (nothing-is generators least arity ts is) ∙ e) in
            subst (λ r. IsAccepted ts r terms) same.1 (subst (IsAccepted ts (behind_one ts)) same.0 (nothing-accepted ts is))
        by_nothing false is =
            let negative = begins_with 45 ts in
            let front : List Token = if negative then behind_one ts else ts in
            let goes = first-read negative front rest terms (sym (first-is generators least arity ts front negative is refl refl) ∙ e) in
            let first = term-spelled asked negative front goes.behind goes.first goes.first_is in
            let others = further-spelled (asked_of goes.first.tree) (length goes.behind) goes.behind rest goes.others (omega arith) goes.others_are in
            subst (IsAccepted ts rest) goes.terms_are (terms-accepted negative ts front goes.behind rest goes.first goes.others (minus-spelled negative ts refl) first others)

    pub read_back : (ts rest : List Token) (terms : List Written) → IsAccepted ts rest terms → element_in generators asked ts ≡ Ok (terms, rest)
    read_back ts rest [] h = nothing-is generators least arity ts (ap is_nothing h.0 ∙ nothing-there rest h.2) ∙ ap (λ x. read [] (behind_one x)) h.0
    read_back ts rest (term ∷ terms) h =
        let sign : List Token = if term.negative then Byte 45 ∷ [] else [] in
        let whole = term_tokens generators term in
        let further = further_tokens generators terms in
        let behind = further ++ rest in
        let have : HaveDemandedArity generators least arity (term ∷ terms) = h.1 in
        let tree = All-head (λ (x : Written). IsElementTree generators have.n x.tree) term terms have.trees in
        let trees = All-tail (λ (x : Written). IsElementTree generators have.n x.tree) term terms have.trees in
        let count : leaf_count term.tree ≡ have.n = leaf_count-labelled _ have.n term.tree tree.labelled in
        let spelled : ts ≡ sign ++ (whole ++ behind) = h.0 ∙ append_assoc sign (whole ++ further) rest ∙ ap (λ r. sign ++ r) (append_assoc whole further rest) in
        let begins = first-is generators least arity ts (whole ++ behind) term.negative
        (ap is_nothing spelled ∙ something-there generators term.negative term.coefficient term.tree behind (positive generators have.n term.tree tree))
        (minus-there generators term.negative term.coefficient term.tree behind ∙ sym (ap (begins_with 45) spelled))
        (minus-behind term.negative (whole ++ behind) ∙ ap (λ x. if term.negative then behind_one x else x) (sym spelled)) in
        let alone = is_leaf term.tree in
        let first = term-read asked (whole ++ behind) behind term refl (demanded generators asked have.n term.tree tree have.least_is have.arity_is) (unstarred-behind asked alone terms rest h.2.2) in
        let all = All-weaker (λ (x : Written). IsElementTree generators have.n x.tree) (λ (x : Written). IsDemanded generators (asked_of term.tree) x.tree)
        (λ x t. demanded generators (asked_of term.tree) have.n x.tree t have.least_is (λ m known. let same : leaf_count term.tree ≡ m = cc in sym count ∙ same)) terms trees in
        let others = further-read (asked_of term.tree) terms (length behind) behind rest alone (omega arith) refl all h.2.0 h.2.1 h.2.2 in
        begins ∙ further-reads generators least arity (whole ++ behind) behind rest term.negative term terms first others

-- which elements are accepted, where it is known which trees are
pub elements_accepted : TreesAreAccepted → ElementsAreAccepted
elements_accepted trees generators table least arity ts rest terms = (accepted trees generators table least arity ts rest terms, read_back trees generators table least arity ts rest terms)
