-- Symmetry rules: the sign of an exchange, and the two trees of a rule.
use Rattle.std.proofs.Common.{◌≡◌, ◌≢◌, ℕ, zero, suc, ◌+◌, ◌-◌, ◌<◌, ◌≤◌, Some, None, List, [], ◌∷◌, length, map, refl, ap, ap₂, sym, ◌∙◌, subst, arith, inl, inr, ⊎_elim, lt-ltb, le-ltb}
use Rattle.std.specs.List.{range_with_len}
use Rattle.std.proofs.lemmas.Bool.Decides.{nat_tests}
use Rattle.labelled_trees.specs.Trees.{Tree, leaf, node, more, row}
use Rattle.operad_ideals.specs.Laws.{arity}
use Rattle.operad_ideals.specs.Parts.{Part, Kind, symmetric, skew, free, Sign, Turns, InOnePart}
use Rattle.operad_ideals.specs.Rules.{numbered, exchanged_at}
use Rattle.operad_ideals.proofs.Corollas.{numbered-numbered, exchanged-numbered, numbered-fits, exchanged-fits}
use Rattle.operad_ideals.proofs.SortedLists.{tested}
use Rattle.std.proofs.lemmas.List.Elements.{All-from_recursion}
use Rattle.labelled_trees.specs.Meaning.{tree_of}
use Rattle.operad_ideals.specs.Parts.{minus, times}
use Rattle.operad_ideals.specs.Presentations.{residue_of}
use Rattle.symmetric_trees.specs.Generators.{parts_at}
use Rattle.symmetric_trees.specs.Trees.{Fits}
use Rattle.symmetric_trees.specs.declared.generators.Generator.{Generator}
use Rattle.labelled_trees.specs.Labelled.{IsNumbered}
use Rattle.symmetric_sums.specs.Terms.{IsSum, FitsOver, terms_of}
use Rattle.symmetric_sums.specs.Instances.{kind_sign, exchange_sign, rule_sign, symmetry_terms}
use Rattle.symmetric_sums.specs.Symmetries.{exchanged}
use Rattle.symmetric_sums.specs.declared.term.Term.{Term}
use Rattle.symmetric_sums.proofs.Numberings.{arity_is}
use Rattle.operad_ideals.proofs.ArityOne.{part_below}

-- ---- the sign of an exchange

kind_turns : (kind : Kind) (s : Sign) → kind_sign kind ≡ Some s → Turns kind s
kind_turns symmetric s e = cc
kind_turns skew s e = cc
kind_turns free s e = absurd cc

turns_kind : (kind : Kind) (s : Sign) → Turns kind s → kind_sign kind ≡ Some s
turns_kind symmetric s e = cc
turns_kind skew s e = cc
turns_kind free s e = absurd e

pub exchange-here : (part : Part) (parts : List Part) (i : ℕ) → i + 1 < part.size → exchange_sign (part ∷ parts) i ≡ kind_sign part.kind
exchange-here part parts i l = let a : i < part.size = omega arith in rw (lt-ltb i part.size a, lt-ltb (i + 1) part.size l) refl

pub exchange-last : (part : Part) (parts : List Part) (i : ℕ) → i < part.size → part.size ≤ i + 1 → exchange_sign (part ∷ parts) i ≡ None
exchange-last part parts i a b = rw (lt-ltb i part.size a, le-ltb (i + 1) part.size b) refl

pub exchange-later : (part : Part) (parts : List Part) (i : ℕ) → part.size ≤ i → exchange_sign (part ∷ parts) i ≡ exchange_sign parts (i - part.size)
exchange-later part parts i l = rw (le-ltb i part.size l) refl

-- two inputs that have a sign belong to one part
pub exchange-in_part : (parts : List Part) (i : ℕ) (s : Sign) → exchange_sign parts i ≡ Some s → InOnePart parts i s
exchange-in_part [] i s e = absurd cc
exchange-in_part (part ∷ parts) i s e = ⊎_elim
    (λ a. ⊎_elim
    (λ b. inl (omega (arith, b), kind_turns part.kind s (sym (exchange-here part parts i b) ∙ e)))
    (λ b. absurd (cc (exchange-last part parts i a b, e)))
    (tested (i + 1) part.size))
    (λ a. inr (i - part.size, omega (arith, a), exchange-in_part parts (i - part.size) s (sym (exchange-later part parts i a) ∙ e)))
    (tested i part.size)

-- two inputs of one part have its sign
pub in_part-exchange : (parts : List Part) (i : ℕ) (s : Sign) → InOnePart parts i s → exchange_sign parts i ≡ Some s
in_part-exchange [] i s h = absurd h
in_part-exchange (part ∷ parts) i s (inl h) = exchange-here part parts i (omega (arith, h.0)) ∙ turns_kind part.kind s h.1
in_part-exchange (part ∷ parts) i s (inr h) =
    let rest : i - part.size ≡ h.0 = omega (arith, h.1) in
    exchange-later part parts i (omega (arith, h.1)) ∙ ap (exchange_sign parts) rest ∙ in_part-exchange parts h.0 s h.2

-- ---- the trees of a rule as lists of leaves

exchanged-one : (one other n : ℕ) → n ≡ one → exchanged one other n ≡ other
exchanged-one one other n e = grind (arith, nat_tests)

exchanged-other : (one other n : ℕ) → n ≢ one → n ≡ other → exchanged one other n ≡ one
exchanged-other one other n f e = grind (arith, nat_tests)

exchanged-rest : (one other n : ℕ) → n ≢ one → n ≢ other → exchanged one other n ≡ n
exchanged-rest one other n f e = grind (arith, nat_tests)

exchanged-self : (one n : ℕ) → exchanged one one n ≡ n
exchanged-self one n = grind (arith, nat_tests)

numbered-row : (f : ℕ → ℕ) (a b k : ℕ) → b ≡ suc a → ((n : ℕ) → a < n → f n ≡ n) → numbered a k ≡ row (map (λ n. leaf (f n)) (range_with_len b k))
numbered-row f a b zero e h = refl
numbered-row f a b (suc k) e h =
    ap₂ more (ap leaf (sym e ∙ sym (h b (omega (arith, e))))) (numbered-row f (suc a) (b + 1) k (omega (arith, e)) (λ n l. h n (omega (arith, l))))

pub numbered-list : (at k : ℕ) → numbered 0 k ≡ row (map (λ n. leaf (exchanged at at n)) (range_with_len 1 k))
numbered-list at k = numbered-row (exchanged at at) 0 1 k refl (λ n l. exchanged-self at n)

exchanged-row : (i a b k one other : ℕ) → b ≡ suc a → one ≡ b + i → other ≡ b + i + 1 → suc i < k
    → exchanged_at i (numbered a k) ≡ row (map (λ n. leaf (exchanged one other n)) (range_with_len b k))
exchanged-row i a b zero one other e f g l = absurd (omega (arith, l))
exchanged-row zero a b (suc zero) one other e f g l = absurd (omega (arith, l))
exchanged-row zero a b (suc (suc k)) one other e f g l =
    ap₂ more (ap leaf (let x : suc (suc a) ≡ other = omega (arith, e, g) in x ∙ sym (exchanged-one one other b (omega (arith, f)))))
    (ap₂ more (ap leaf (let x : suc a ≡ one = omega (arith, e, f) in x ∙ sym (exchanged-other one other (b + 1) (omega (arith, f)) (omega (arith, g)))))
    (numbered-row (exchanged one other) (suc (suc a)) (b + 1 + 1) k (omega (arith, e)) (λ n m. exchanged-rest one other n (omega (arith, e, f, m)) (omega (arith, e, g, m)))))
exchanged-row (suc i) a b (suc k) one other e f g l =
    ap₂ more (ap leaf (sym e ∙ sym (exchanged-rest one other b (omega (arith, f)) (omega (arith, g)))))
    (exchanged-row i (suc a) (b + 1) k one other (omega (arith, e)) (omega (arith, f)) (omega (arith, g)) (omega (arith, l)))

pub exchanged-list : (i k one other : ℕ) → one ≡ i + 1 → other ≡ one + 1 → suc i < k → exchanged_at i (numbered 0 k) ≡ row (map (λ n. leaf (exchanged one other n)) (range_with_len 1 k))
exchanged-list i k one other e f l = exchanged-row i 0 1 k one other refl (omega (arith, e)) (omega (arith, e, f)) l

-- ---- a rule of a table

pub rule_sign-at : (generators : List Generator) (g at : ℕ) → 0 < at → rule_sign generators g at ≡ exchange_sign (parts_at generators g) (at - 1)
rule_sign-at generators g zero l = absurd (omega (arith, l))
rule_sign-at generators g (suc i) l = let e : i ≡ suc i - 1 = omega arith in ap (exchange_sign (parts_at generators g)) e

parts_at-past : (generators : List Generator) (g : ℕ) → length generators ≤ g → parts_at generators g ≡ []
parts_at-past [] g l = refl
parts_at-past (x ∷ xs) zero l = absurd (omega (arith, l))
parts_at-past (x ∷ xs) (suc g) l = parts_at-past xs g (omega (arith, l))

pub rule_sign-past : (generators : List Generator) (g at : ℕ) → length generators ≤ g → None ≡ rule_sign generators g at
rule_sign-past generators g zero l = refl
rule_sign-past generators g (suc i) l = sym (ap (λ ps. exchange_sign ps i) (parts_at-past generators g l))

-- a rule with a sign stands within the inputs of a generator of the table
pub rule_sign-within : (generators : List Generator) (g at : ℕ) (s : Sign) → rule_sign generators g at ≡ Some s → (0 < at) × (at < arity (parts_at generators) g)
rule_sign-within generators g zero s e = absurd cc
rule_sign-within generators g (suc i) s e = (omega arith, part_below (parts_at generators g) i s (exchange-in_part (parts_at generators g) i s e))

-- the two terms of a rule
pub record AreRuleTerms (generators : List Generator) (g at k : ℕ) (one other : Term) : Type 0 where
  pub first : tree_of one.tree ≡ node g (numbered 0 k)
  pub second : tree_of other.tree ≡ node g (exchanged_at (at - 1) (numbered 0 k))
  pub positive : (0 < one.coef) × (0 < other.coef)
  pub wide : 2 ≤ k
  pub arity_is : arity (parts_at generators) g ≡ k

pub rule-made : (generators : List Generator) (g at k : ℕ) (s : Sign) (one other : Term) → rule_sign generators g at ≡ Some s → arity (parts_at generators) g ≡ k
    → tree_of one.tree ≡ node g (row (map (λ n. leaf (exchanged at at n)) (range_with_len 1 k)))
    → tree_of other.tree ≡ node g (row (map (λ n. leaf (exchanged at (at + 1) n)) (range_with_len 1 k)))
    → 0 < one.coef → 0 < other.coef → AreRuleTerms generators g at k one other
rule-made generators g at k s one other sign same first second a b =
    let w = rule_sign-within generators g at s sign in
    record {
      first = first ∙ ap (node g) (sym (numbered-list at k));
      second = second ∙ ap (node g) (sym (exchanged-list (at - 1) k at (at + 1) (omega (arith, w.0)) refl (omega (arith, w.0, w.1, same))));
      positive = (a, b);
      wide = omega (arith, w.0, w.1, same);
      arity_is = same;
    }

pub rule-sum : (generators : List Generator) (g at k : ℕ) (one other : Term) → AreRuleTerms generators g at k one other → IsSum (one ∷ (other ∷ [])) (Some k)
rule-sum generators g at k one other r = record {
  nonzero = All-from_recursion (λ (x : Term). 0 < x.coef) (one ∷ (other ∷ [])) (r.positive.0, (r.positive.1, tt));
  arity_is = arity_is (one ∷ (other ∷ [])) k (omega arith)
      (All-from_recursion (λ (x : Term). IsNumbered k (tree_of x.tree)) (one ∷ (other ∷ []))
      (subst (IsNumbered k) (sym r.first) (numbered-numbered g k), (subst (IsNumbered k) (sym r.second) (exchanged-numbered g k (at - 1)), tt)));
}

pub rule-terms : (p : ℕ) (generators : List Generator) (g at k : ℕ) (s : Sign) (one other : Term) → AreRuleTerms generators g at k one other → one.coef ≡ 1 → other.coef ≡ residue_of (p - 1) (times minus s)
    → terms_of (one ∷ (other ∷ [])) ≡ symmetry_terms p generators g at (Some s)
rule-terms p generators g at k s one other r e f =
    ap₂ (λ (x y : ℕ × Tree ℕ). x ∷ (y ∷ []))
    (ap₂ (λ (c : ℕ) (t : Tree ℕ). (c, t)) e (r.first ∙ ap (λ n. node g (numbered 0 n)) (sym r.arity_is)))
    (ap₂ (λ (c : ℕ) (t : Tree ℕ). (c, t)) f (r.second ∙ ap (λ n. node g (exchanged_at (at - 1) (numbered 0 n))) (sym r.arity_is)))

pub rule-fits : (p : ℕ) (generators : List Generator) (g at k : ℕ) (one other : Term) → AreRuleTerms generators g at k one other → one.coef < p → other.coef < p → FitsOver p generators (one ∷ (other ∷ []))
rule-fits p generators g at k one other r a b =
    let arities = arity (parts_at generators) in
    let wide : 2 ≤ arities g = omega (arith, r.wide, r.arity_is) in
    record {
      residues = All-from_recursion (λ (x : Term). x.coef < p) (one ∷ (other ∷ [])) (a, (b, tt));
      trees = All-from_recursion (λ (x : Term). Fits generators (tree_of x.tree)) (one ∷ (other ∷ [])) (
        subst (Fits generators) (sym (r.first ∙ ap (λ n. node g (numbered 0 n)) (sym r.arity_is))) (numbered-fits arities g wide),
        (subst (Fits generators) (sym (r.second ∙ ap (λ n. node g (exchanged_at (at - 1) (numbered 0 n))) (sym r.arity_is))) (exchanged-fits arities g (at - 1) wide), tt),
      );
    }
