-- Facts of tables of generators.
use Rattle.std.proofs.Common.{◌≡◌, ℕ, zero, suc, map, refl, ◌+◌, ◌<◌, ◌≤◌, List, [], ◌∷◌, ◌++◌, length, get_or, take, Some, slice_get, ◌⊎◌, ⊎_elim, ap, ◌∙◌, sym, subst, arith, length-append}
use Rattle.std.specs.List.{Any, AllByRecursion, HoldsAt, sum_by}
use Rattle.std.proofs.lemmas.List.Sums.{sum_by-cons, sum_by_more, sum_by-take-le}
use Rattle.operad_ideals.specs.Parts.{total}
use Rattle.operad_ideals.specs.Laws.{arity}
use Rattle.symmetric_trees.specs.declared.generators.Part.{Part}
use Rattle.symmetric_trees.specs.declared.generators.PartKind.TheVariants.{Sym}
use Rattle.std.proofs.lemmas.List.Elements.{All-push}
use Rattle.std.proofs.lemmas.List.Quantifiers.{all_pairs_push}
use Rattle.std.proofs.lemmas.List.{get_or_default}
use Rattle.std.proofs.lemmas.Option.{get_or_from_slice_get}
use Rattle.symmetric_trees.specs.declared.generators.Generator.{Generator}
use Rattle.symmetric_trees.specs.Generators.{part_of, parts_at, generators_of, IsTable, IsTaken, MayBeAdded, IsNamed, IsArity, SizesFit}

-- a name that no generator has differs from the name of each
pub none_named : (generators : List Generator) (name : List ℕ) → (Any (IsNamed name) generators → ⊥) → (k : ℕ) (d : Generator) → k < length generators → (get_or generators k d).name ≡ name → ⊥
none_named generators name none k d l e =
    none (k, get_or generators k d, l, get_or_default generators k (get_or generators k d) d l, e)

-- a table with one more generator
pub table-push : (generators : List Generator) (generator : Generator) → IsTable generators → MayBeAdded generators generator → IsTable (generators ++ generator ∷ [])
table-push generators generator table welcome = record {
  few = omega (arith, length-append generators (generator ∷ []), welcome.room);
  apart = all_pairs_push (λ one other. one.name ≡ other.name → ⊥) generators generator table.apart (λ k d l e. none_named generators generator.name welcome.new_name k d l e);
  arities = All-push (λ g. IsArity g.arity) generators generator table.arities welcome.arity;
  sizes = All-push SizesFit generators generator table.sizes welcome.sizes;
}

pub below_or_at : (k i : ℕ) → k < i + 1 → (k < i) ⊎ (i ≡ k)
below_or_at k i l = grind arith

-- no generator so far has the name
pub none_named-more : (generators : List Generator) (name : List ℕ) (i : ℕ) (g : Generator) → slice_get generators i ≡ Some g → (g.name ≡ name → ⊥)
    → ((k : ℕ) (d : Generator) → k < i → IsNamed name (get_or generators k d) → ⊥) → (k : ℕ) (d : Generator) → k < i + 1 → IsNamed name (get_or generators k d) → ⊥
none_named-more generators name i g is other before k d l e = ⊎_elim
    (λ below. before k d below e)
    (λ here. other (sym (ap (λ x. x.name) (get_or_from_slice_get generators i g d is)) ∙ ap (λ j. (get_or generators j d).name) here ∙ e))
    (below_or_at k i l)

-- a name that is held at an index is taken
pub taken-at : (generators : List Generator) (name : List ℕ) (i : ℕ) → i < length generators → HoldsAt (IsNamed name) generators i → IsTaken name generators
taken-at [] name i l h = absurd (omega arith)
taken-at (g ∷ gs) name i l h = (i, get_or (g ∷ gs) i g, l, get_or_default (g ∷ gs) i (get_or (g ∷ gs) i g) g l, h g)

-- ---- arities

total-parts : (parts : List Part) → total (map part_of parts) ≡ sum_by (λ part. part.size) parts
total-parts [] = refl
total-parts (part ∷ parts) = ap (λ n. part.size + n) (total-parts parts) ∙ sym (sum_by-cons (λ (x : Part). x.size) part parts)

pub parts_at-held : (generators : List Generator) (i : ℕ) (g : Generator) → slice_get generators i ≡ Some g → parts_at generators i ≡ map part_of g.parts
parts_at-held [] i g e = absurd cc
parts_at-held (x ∷ xs) zero g e = let same : x ≡ g = cc in ap (λ y. map part_of y.parts) same
parts_at-held (x ∷ xs) (suc i) g e = parts_at-held xs i g e

-- the sizes of a generator of a table add up to its arity
pub arity-held : (generators : List Generator) (i : ℕ) (g : Generator) → IsTable generators → i < length generators → slice_get generators i ≡ Some g → arity (parts_at generators) i ≡ g.arity
arity-held generators i g table l e =
    let fit = subst SizesFit (get_or_from_slice_get generators i g g e) (table.sizes i g l) in
    ap total (parts_at-held generators i g e) ∙ total-parts g.parts ∙ fit.1

pub arity-bounds : (generators : List Generator) (i : ℕ) (g : Generator) → IsTable generators → i < length generators → slice_get generators i ≡ Some g → IsArity g.arity
arity-bounds generators i g table l e = subst (λ x. IsArity x.arity) (get_or_from_slice_get generators i g g e) (table.arities i g l)

-- no generator, no inputs
pub arity-past : (generators : List Generator) (i : ℕ) → length generators ≤ i → arity (parts_at generators) i ≡ 0
arity-past [] i l = refl
arity-past (x ∷ xs) zero l = absurd (omega arith)
arity-past (x ∷ xs) (suc i) l = arity-past xs i (omega arith)

-- the sizes of a generator of a table add up to its inputs
pub sizes-held : (generators : List Generator) (i : ℕ) (g : Generator) → slice_get generators i ≡ Some g → arity (parts_at generators) i ≡ sum_by (λ (part : Part). part.size) g.parts
sizes-held generators i g e = ap total (parts_at-held generators i g e) ∙ total-parts g.parts

-- the sizes of the parts of a generator are its number of inputs
pub inputs_held : (g : Generator) → SizesFit g → total (map part_of g.parts) ≡ g.arity
inputs_held g h = total-parts g.parts ∙ h.1

pub few_inputs : (generators : List Generator) → AllByRecursion (λ (g : Generator). IsArity g.arity) generators → AllByRecursion SizesFit generators → AllByRecursion (λ parts. total parts ≤ 6) (generators_of generators)
few_inputs [] h k = tt
few_inputs (g ∷ gs) h k = (let e = inputs_held g k.0 in omega (arith, e, h.0.1), few_inputs gs h.1 k.1)

not_past : (n i a : ℕ) → 2 ≤ a → (n ≤ i → a ≡ 0) → i < n
not_past n i a l past = grind arith

-- what has inputs is in the table
pub held_if_wide : (generators : List Generator) (i : ℕ) → 2 ≤ arity (parts_at generators) i → i < length generators
held_if_wide generators i l = not_past (length generators) i (arity (parts_at generators) i) l (λ p. arity-past generators i p)

-- a part ends within all of them
pub part_within : (parts : List Part) (i from len : ℕ) → i < length parts → from ≡ sum_by (λ (part : Part). part.size) (take i parts) → sum_by (λ (part : Part). part.size) parts ≡ len
    → from + (get_or parts i (record { kind = Sym; size = 0 })).size ≤ len
part_within parts i from len l place all =
    let more = sum_by_more (λ (part : Part). part.size) parts i (record { kind = Sym; size = 0 }) l in
    let least = sum_by-take-le (λ (part : Part). part.size) parts (i + 1) in
    omega (arith, more, least, place, all)
