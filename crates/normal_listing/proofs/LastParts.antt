-- The parts of a list with one more number behind it.
use Rattle.std.proofs.Common.{◌≡◌, ℕ, List, [], ◌∷◌, Bool, true, cond, map, refl, sym, ◌∙◌, ap}
use mathlib.Core.List.{◌++◌}
use mathlib.Core.Path.{ap₂}
use Rattle.std.specs.List.{filter, flat_map}
use Rattle.normal_listing.specs.Rows.{Split, splits, is_some, either_way, PartsWithLast}
use Rattle.normal_listing.proofs.RowChoices.{flat_joined, flat_of_map, map_of_flat}

abbrev in_own : ℕ → Split → Split
in_own x q = record { own = x ∷ q.own; others = q.others }

abbrev in_others : ℕ → Split → Split
in_others x q = record { own = q.own; others = x ∷ q.others }

abbrev some : Split → Bool
some q = is_some q.others

-- something is left in each
abbrev AllSome : List Split → Type 0
AllSome [] = Unit {0}
AllSome (q ∷ l) = (is_some q.others ≡ true) × AllSome l

splits_last : (l : List ℕ) (y : ℕ) → splits (l ++ (y ∷ [])) ≡ flat_map (either_way y) (splits l)
splits_last [] y = refl
splits_last (x ∷ l) y =
    ap₂ (λ a b. a ++ b)
    (ap (map (in_own x)) (splits_last l y) ∙ map_of_flat (in_own x) (either_way y) (splits l) ∙ sym (flat_of_map (either_way y) (in_own x) (splits l)))
    (ap (map (in_others x)) (splits_last l y) ∙ map_of_flat (in_others x) (either_way y) (splits l) ∙ sym (flat_of_map (either_way y) (in_others x) (splits l)))
    ∙ sym (flat_joined (either_way y) (map (in_own x) (splits l)) (map (in_others x) (splits l)))

some_own : (x : ℕ) (l : List Split) → AllSome l → AllSome (map (in_own x) l)
some_own x [] h = tt
some_own x (q ∷ l) h = (h.0, some_own x l h.1)

some_others : (x : ℕ) (l : List Split) → AllSome (map (in_others x) l)
some_others x [] = tt
some_others x (q ∷ l) = (refl, some_others x l)

some_both : (k l : List Split) → AllSome k → AllSome l → AllSome (k ++ l)
some_both [] l g h = h
some_both (q ∷ k) l g h = (g.0, some_both k l g.1 h)

last_some : (l : List ℕ) (y : ℕ) → is_some (l ++ (y ∷ [])) ≡ true
last_some [] y = refl
last_some (x ∷ l) y = refl

some_ways : (y : ℕ) (l : List Split) → AllSome l → AllSome (flat_map (either_way y) l)
some_ways y [] h = tt
some_ways y (q ∷ l) h = (h.0, (last_some q.others y, some_ways y l h.1))

filter_some : (l : List Split) → AllSome l → filter some l ≡ l
filter_some [] h = refl
filter_some (q ∷ l) h = ap₂ (λ b m. cond b (q ∷ m) m) h.0 (filter_some l h.1)

-- the first way to divide a list leaves nothing, and the others something
record First (l : List ℕ) : Type 0 where
  rest : List Split
  is : splits l ≡ record { own = l; others = [] } ∷ rest
  all : AllSome rest

first_split : (l : List ℕ) → First l
first_split [] = record { rest = []; is = refl; all = tt }
first_split (x ∷ l) = let f = first_split l in record {
  rest = map (in_own x) f.rest ++ map (in_others x) (splits l);
  is = ap (λ s. map (in_own x) s ++ map (in_others x) (splits l)) f.is;
  all = some_both (map (in_own x) f.rest) (map (in_others x) (splits l)) (some_own x f.rest f.all) (some_others x (splits l));
}

pub parts_with_last : PartsWithLast
parts_with_last a l y =
    let f = first_split l in
    ap (λ s. map (in_own a) (filter some s)) (splits_last l y ∙ ap (flat_map (either_way y)) f.is)
    ∙ ap (λ s. map (in_own a) (record { own = l; others = y ∷ [] } ∷ s)) (filter_some (flat_map (either_way y) f.rest) (some_ways y f.rest f.all))
    ∙ ap (λ s. record { own = a ∷ l; others = y ∷ [] } ∷ s)
    (map_of_flat (in_own a) (either_way y) f.rest ∙ sym (flat_of_map (either_way y) (in_own a) f.rest)
    ∙ ap (λ s. flat_map (either_way y) (map (in_own a) s)) (sym (ap (filter some) f.is ∙ filter_some f.rest f.all)))
