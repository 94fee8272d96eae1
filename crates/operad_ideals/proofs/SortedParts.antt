-- Lists sorted part by part.
use Rattle.std.proofs.Common.{◌≡◌, inl, inr, ⊎_elim, ℕ, zero, suc, ◌+◌, ◌<◌, ◌≤◌, List, [], ◌∷◌, ◌++◌, length, map, take, drop, get_or, refl, sym, ap, ap₂, ◌∙◌, subst, arith, min, map-id, length-append, length-take, length-drop, take-append-drop, get_or-take, get_or-drop}
use Rattle.std.specs.List.{AllByRecursion}
use Rattle.std.proofs.lemmas.List.{map-append, take-map, drop-map, nil_from_length}
use Rattle.std.proofs.Math.ListN.{get_or-append, length-map}
use Rattle.operad_ideals.specs.Parts.{Kind, symmetric, skew, free, Part, Sign, plus, minus, times, total, Turns, InOnePart}
use Rattle.operad_ideals.specs.Sorting.{order_sign, sort_part, part_sign, sort_parts, parts_sign}
use Rattle.operad_ideals.proofs.Signs.{times_assoc, times_left_comm}
use Rattle.operad_ideals.proofs.SortedLists.{Apart, Ascends, exchange, apart-take, apart-drop, every_sort_by, every_take, every_drop, length-sort_by, sort_by-ascends, sort_by-same, sort_by-exchange, order_sign-exchange, order_sign-ascending, ascends-from_neighbours, ascends-neighbours, map-sort_by}

-- ---- exchanges within and past the first n elements

take-exchange : {X : Type 0} (n i : ℕ) (xs : List X) → suc i < n → take n (exchange i xs) ≡ exchange i (take n xs)
take-exchange zero i xs l = absurd (omega (arith, l))
take-exchange (suc zero) i xs l = absurd (omega (arith, l))
take-exchange (suc (suc n)) zero [] l = refl
take-exchange (suc (suc n)) zero (x ∷ []) l = refl
take-exchange (suc (suc n)) zero (x ∷ (y ∷ ys)) l = refl
take-exchange (suc (suc n)) (suc i) [] l = refl
take-exchange (suc (suc n)) (suc i) (x ∷ xs) l = ap (λ ys. x ∷ ys) (take-exchange (suc n) i xs (omega (arith, l)))

drop-exchange : {X : Type 0} (n i : ℕ) (xs : List X) → suc i < n → drop n (exchange i xs) ≡ drop n xs
drop-exchange zero i xs l = absurd (omega (arith, l))
drop-exchange (suc zero) i xs l = absurd (omega (arith, l))
drop-exchange (suc (suc n)) zero [] l = refl
drop-exchange (suc (suc n)) zero (x ∷ []) l = refl
drop-exchange (suc (suc n)) zero (x ∷ (y ∷ ys)) l = refl
drop-exchange (suc (suc n)) (suc i) [] l = refl
drop-exchange (suc (suc n)) (suc i) (x ∷ xs) l = drop-exchange (suc n) i xs (omega (arith, l))

take-exchange_past : {X : Type 0} (n i j : ℕ) (xs : List X) → i ≡ n + j → take n (exchange i xs) ≡ take n xs
take-exchange_past zero i j xs e = refl
take-exchange_past (suc n) zero j xs e = absurd (omega (arith, e))
take-exchange_past (suc n) (suc i) j [] e = refl
take-exchange_past (suc n) (suc i) j (x ∷ xs) e = ap (λ ys. x ∷ ys) (take-exchange_past n i j xs (omega (arith, e)))

drop-exchange_past : {X : Type 0} (n i j : ℕ) (xs : List X) → i ≡ n + j → drop n (exchange i xs) ≡ exchange j (drop n xs)
drop-exchange_past zero i j xs e = let same : i ≡ j = omega (arith, e) in ap (λ k. exchange k xs) same
drop-exchange_past (suc n) zero j xs e = absurd (omega (arith, e))
drop-exchange_past (suc n) (suc i) zero [] e = refl
drop-exchange_past (suc n) (suc i) (suc j) [] e = refl
drop-exchange_past (suc n) (suc i) j (x ∷ xs) e = drop-exchange_past n i j xs (omega (arith, e))

-- ---- an exchange in one part doesn't change the sorted list, and turns the sign as that part does

sort_part-exchange : {X : Type 0} (key : X → ℕ) (kind : Kind) (s : Sign) (i : ℕ) (xs : List X) → Turns kind s → Apart key xs → sort_part key kind (exchange i xs) ≡ sort_part key kind xs
sort_part-exchange key symmetric s i xs t h = sort_by-exchange key i xs h
sort_part-exchange key skew s i xs t h = sort_by-exchange key i xs h
sort_part-exchange key free s i xs t h = absurd t

pub sort_parts-exchange : {X : Type 0} (key : X → ℕ) (parts : List Part) (i : ℕ) (s : Sign) (xs : List X) → InOnePart parts i s → Apart key xs → sort_parts key parts (exchange i xs) ≡ sort_parts key parts xs
sort_parts-exchange key [] i s xs here h = absurd here
sort_parts-exchange key (p ∷ parts) i s xs (inl here) h =
    ap₂ (λ ys zs. sort_part key p.kind ys ++ sort_parts key parts zs) (take-exchange p.size i xs here.0) (drop-exchange p.size i xs here.0)
    ∙ ap (λ ys. ys ++ sort_parts key parts (drop p.size xs)) (sort_part-exchange key p.kind s i (take p.size xs) here.1 (apart-take key p.size xs h))
sort_parts-exchange key (p ∷ parts) i s xs (inr there) h =
    ap₂ (λ ys zs. sort_part key p.kind ys ++ sort_parts key parts zs) (take-exchange_past p.size i there.0 xs there.1) (drop-exchange_past p.size i there.0 xs there.1)
    ∙ ap (λ ys. sort_part key p.kind (take p.size xs) ++ ys) (sort_parts-exchange key parts there.0 s (drop p.size xs) there.2 (apart-drop key p.size xs h))

part_sign-exchange : (kind : Kind) (s : Sign) (i : ℕ) (ks : List ℕ) → Turns kind s → Apart (λ n. n) ks → suc i < length ks → part_sign kind ks ≡ times s (part_sign kind (exchange i ks))
part_sign-exchange symmetric s i ks t h l = ap (λ r. times r plus) (sym t)
part_sign-exchange skew s i ks t h l = order_sign-exchange i ks h l ∙ ap (λ r. times r (order_sign (exchange i ks))) (sym t)
part_sign-exchange free s i ks t h l = absurd t

pub parts_sign-exchange : (parts : List Part) (i : ℕ) (s : Sign) (ks : List ℕ) → InOnePart parts i s → Apart (λ n. n) ks → suc i < length ks → parts_sign parts ks ≡ times s (parts_sign parts (exchange i ks))
parts_sign-exchange [] i s ks here h l = absurd here
parts_sign-exchange (p ∷ parts) i s ks (inl here) h l =
    let within : suc i < length (take p.size ks) = rw (length-take p.size ks) (omega (arith, here.0, l)) in
    ap (λ r. times r (parts_sign parts (drop p.size ks))) (part_sign-exchange p.kind s i (take p.size ks) here.1 (apart-take (λ n. n) p.size ks h) within)
    ∙ times_assoc s (part_sign p.kind (exchange i (take p.size ks))) (parts_sign parts (drop p.size ks))
    ∙ ap (times s) (sym (ap₂ (λ ys zs. times (part_sign p.kind ys) (parts_sign parts zs)) (take-exchange p.size i ks here.0) (drop-exchange p.size i ks here.0)))
parts_sign-exchange (p ∷ parts) i s ks (inr there) h l =
    let within : suc there.0 < length (drop p.size ks) = rw (length-drop p.size ks) (omega (arith, there.1, l)) in
    ap (times (part_sign p.kind (take p.size ks))) (parts_sign-exchange parts there.0 s (drop p.size ks) there.2 (apart-drop (λ n. n) p.size ks h) within)
    ∙ times_left_comm (part_sign p.kind (take p.size ks)) s (parts_sign parts (exchange there.0 (drop p.size ks)))
    ∙ ap (times s) (sym (ap₂ (λ ys zs. times (part_sign p.kind ys) (parts_sign parts zs)) (take-exchange_past p.size i there.0 ks there.1) (drop-exchange_past p.size i there.0 ks there.1)))

-- ---- the sorted list

every_append : {X : Type 0} (P : X → Type 0) (xs ys : List X) → AllByRecursion P xs → AllByRecursion P ys → AllByRecursion P (xs ++ ys)
every_append P [] ys h k = k
every_append P (x ∷ xs) ys h k = (h.0, every_append P xs ys h.1 k)

every_sort_part : {X : Type 0} (key : X → ℕ) (P : X → Type 0) (kind : Kind) (xs : List X) → AllByRecursion P xs → AllByRecursion P (sort_part key kind xs)
every_sort_part key P symmetric xs h = every_sort_by key P xs h
every_sort_part key P skew xs h = every_sort_by key P xs h
every_sort_part key P free xs h = h

-- what holds of each element holds of each element of the sorted list
pub every_sort_parts : {X : Type 0} (key : X → ℕ) (P : X → Type 0) (parts : List Part) (xs : List X) → AllByRecursion P xs → AllByRecursion P (sort_parts key parts xs)
every_sort_parts key P [] xs h = h
every_sort_parts key P (p ∷ parts) xs h =
    every_append P (sort_part key p.kind (take p.size xs)) (sort_parts key parts (drop p.size xs))
    (every_sort_part key P p.kind (take p.size xs) (every_take P p.size xs h)) (every_sort_parts key P parts (drop p.size xs) (every_drop P p.size xs h))

pub length-sort_part : {X : Type 0} (key : X → ℕ) (kind : Kind) (xs : List X) → length (sort_part key kind xs) ≡ length xs
length-sort_part key symmetric xs = length-sort_by key xs
length-sort_part key skew xs = length-sort_by key xs
length-sort_part key free xs = refl

pub length-sort_parts : {X : Type 0} (key : X → ℕ) (parts : List Part) (xs : List X) → length (sort_parts key parts xs) ≡ length xs
length-sort_parts key [] xs = refl
length-sort_parts key (p ∷ parts) xs =
    length-append (sort_part key p.kind (take p.size xs)) (sort_parts key parts (drop p.size xs))
    ∙ ap₂ (λ m n. m + n) (length-sort_part key p.kind (take p.size xs)) (length-sort_parts key parts (drop p.size xs))
    ∙ sym (length-append (take p.size xs) (drop p.size xs)) ∙ ap length (take-append-drop p.size xs)

pub map-sort_part : {X Y : Type 0} (f : X → Y) (key : X → ℕ) (other : Y → ℕ) → ((x : X) → key x ≡ other (f x)) → (kind : Kind) (xs : List X) → map f (sort_part key kind xs) ≡ sort_part other kind (map f xs)
map-sort_part f key other e symmetric xs = map-sort_by f key other e xs
map-sort_part f key other e skew xs = map-sort_by f key other e xs
map-sort_part f key other e free xs = refl

pub map-sort_parts : {X Y : Type 0} (f : X → Y) (key : X → ℕ) (other : Y → ℕ) → ((x : X) → key x ≡ other (f x)) → (parts : List Part) (xs : List X) → map f (sort_parts key parts xs) ≡ sort_parts other parts (map f xs)
map-sort_parts f key other e [] xs = refl
map-sort_parts f key other e (p ∷ parts) xs =
    map-append f (sort_part key p.kind (take p.size xs)) (sort_parts key parts (drop p.size xs))
    ∙ ap₂ (λ ys zs. ys ++ zs) (map-sort_part f key other e p.kind (take p.size xs)) (map-sort_parts f key other e parts (drop p.size xs))
    ∙ ap₂ (λ ys zs. sort_part other p.kind ys ++ sort_parts other parts zs) (sym (take-map f p.size xs)) (sym (drop-map f p.size xs))

pub sort_parts-nil : {X : Type 0} (key : X → ℕ) (parts : List Part) → sort_parts key parts [] ≡ []
sort_parts-nil key parts = nil_from_length (sort_parts key parts []) (length-sort_parts key parts [])

-- ---- a list whose parts ascend is sorted, and its sign is plus

-- neighbours in one part stand in ascending order
abbrev pub Rise : List Part → List ℕ → Type 0
Rise parts ks = (i : ℕ) (s : Sign) → InOnePart parts i s → get_or ks i 0 < get_or ks (suc i) 0

-- the first part of a list whose parts ascend
rise_first : {X : Type 0} (key : X → ℕ) (p : Part) (parts : List Part) (xs : List X) → Rise (p ∷ parts) (map key xs) → (s : Sign) → Turns p.kind s → Ascends key (take p.size xs)
rise_first key p parts xs h s t = ascends-from_neighbours key (take p.size xs) (λ i l.
    let within : suc i < p.size = let m : suc i < min p.size (length xs) = rw (length-take p.size xs) at l in omega (arith, m) in
    rw (← take-map key p.size xs, get_or-take p.size (map key xs) i 0 (omega (arith, within)), get_or-take p.size (map key xs) (suc i) 0 within) (h i s (inl (within, t))))

-- the other parts
rise_others : (p : Part) (parts : List Part) (ks : List ℕ) → Rise (p ∷ parts) ks → Rise parts (drop p.size ks)
rise_others p parts ks h i s here =
    let next : p.size + suc i ≡ suc (p.size + i) = omega arith in
    rw (get_or-drop p.size ks i 0, get_or-drop p.size ks (suc i) 0, next) (h (p.size + i) s (inr (i, refl, here)))

sort_part-same : {X : Type 0} (key : X → ℕ) (kind : Kind) (xs : List X) → ((s : Sign) → Turns kind s → Ascends key xs) → sort_part key kind xs ≡ xs
sort_part-same key symmetric xs h = sort_by-same key xs (h plus refl)
sort_part-same key skew xs h = sort_by-same key xs (h minus refl)
sort_part-same key free xs h = refl

part_sign-ascending : (kind : Kind) (ks : List ℕ) → ((s : Sign) → Turns kind s → Ascends (λ n. n) ks) → part_sign kind ks ≡ plus
part_sign-ascending symmetric ks h = refl
part_sign-ascending skew ks h = order_sign-ascending ks (h minus refl)
part_sign-ascending free ks h = refl

pub sort_parts-same : {X : Type 0} (key : X → ℕ) (parts : List Part) (xs : List X) → Rise parts (map key xs) → sort_parts key parts xs ≡ xs
sort_parts-same key [] xs h = refl
sort_parts-same key (p ∷ parts) xs h =
    ap₂ (λ ys zs. ys ++ zs) (sort_part-same key p.kind (take p.size xs) (rise_first key p parts xs h))
    (sort_parts-same key parts (drop p.size xs) (subst (Rise parts) (drop-map key p.size xs) (rise_others p parts (map key xs) h)))
    ∙ take-append-drop p.size xs

pub parts_sign-ascending : (parts : List Part) (ks : List ℕ) → Rise parts ks → parts_sign parts ks ≡ plus
parts_sign-ascending [] ks h = refl
parts_sign-ascending (p ∷ parts) ks h =
    ap₂ times (part_sign-ascending p.kind (take p.size ks) (rise_first (λ n. n) p parts ks (subst (Rise (p ∷ parts)) (sym (map-id ks)) h)))
    (parts_sign-ascending parts (drop p.size ks) (rise_others p parts ks h))

-- ---- the parts of the sorted list ascend

sort_part-ascends : {X : Type 0} (key : X → ℕ) (kind : Kind) (s : Sign) (xs : List X) → Turns kind s → Apart key xs → Ascends key (sort_part key kind xs)
sort_part-ascends key symmetric s xs t h = sort_by-ascends key xs h
sort_part-ascends key skew s xs t h = sort_by-ascends key xs h
sort_part-ascends key free s xs t h = absurd t

rise_left : (ks ls : List ℕ) (i : ℕ) → suc i < length ks → get_or ks i 0 < get_or ks (suc i) 0 → get_or (ks ++ ls) i 0 < get_or (ks ++ ls) (suc i) 0
rise_left ks ls i l h = rw (get_or-append ks ls 0 i (omega (arith, l)), get_or-append ks ls 0 (suc i) l) h

rise_right : (ks ls : List ℕ) (i j : ℕ) → i ≡ length ks + j → get_or ls j 0 < get_or ls (suc j) 0 → get_or (ks ++ ls) i 0 < get_or (ks ++ ls) (suc i) 0
rise_right [] ls i j e h = let same : i ≡ j = omega (arith, e) in rw same h
rise_right (k ∷ ks) ls zero j e h = absurd (omega (arith, e))
rise_right (k ∷ ks) ls (suc i) j e h = rise_right ks ls i j (omega (arith, e)) h

pub sort_parts-rise : {X : Type 0} (key : X → ℕ) (parts : List Part) (xs : List X) → total parts ≤ length xs → Apart key xs → Rise parts (map key (sort_parts key parts xs))
sort_parts-rise key [] xs l h i s here = absurd here
sort_parts-rise key (p ∷ parts) xs l h i s here =
    let first : List _ = sort_part key p.kind (take p.size xs) in
    let others : List _ = sort_parts key parts (drop p.size xs) in
    let size : length (map key first) ≡ p.size = length-map first key ∙ length-sort_part key p.kind (take p.size xs) ∙ length-take p.size xs ∙ omega (arith, l) in
    let enough : total parts ≤ length (drop p.size xs) = rw (length-drop p.size xs) (omega (arith, l)) in
    rw (map-append key first others) (⊎_elim
    (λ e. rise_left (map key first) (map key others) i (omega (arith, size, e.0))
    (ascends-neighbours key first (sort_part-ascends key p.kind s (take p.size xs) e.1 (apart-take key p.size xs h)) i (omega (arith, size, length-map first key, e.0))))
    (λ e. rise_right (map key first) (map key others) i e.0 (omega (arith, size, e.1))
    (sort_parts-rise key parts (drop p.size xs) enough (apart-drop key p.size xs h) e.0 s e.2)) here)
