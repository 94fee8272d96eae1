-- Reading stops by what stands before the refused token and by that token alone, where a number before '*' is another token.
use Rattle.std.specs.Prelude.{if◌then◌else◌}
use Rattle.std.proofs.Common.{◌≡◌, ◌⊎◌, inl, inr, ℕ, suc, ◌≤◌, Bool, true, false, not, List, [], ◌∷◌, ◌++◌, length, Result, Ok, Err, refl, ap, sym, ◌∙◌, subst, arith, append_assoc, append-nil, length-append}
use Rattle.presentation_text.specs.declared.kinds.DocKind.{DocKind}
use Rattle.presentation_text.specs.declared.kinds.DocKind.TheVariants.{InputCount, Syntax}
use Rattle.presentation_text.specs.Accepted.{IsSameBefore}
use Rattle.presentation_text.specs.declared.lexing.Token.{Token}
use Rattle.presentation_text.specs.declared.lexing.Token.TheVariants.{Word, Number, Long, Byte, Bad}
use Rattle.presentation_text.specs.Readings.{Fault, Reading, ◌>>=◌, is_mark, misplaced, first_row, refused}
use Rattle.presentation_text.specs.TreeReadings.{begins_with, before_in, close_in}
use Rattle.presentation_text.proofs.TreesAcceptedTrees.{ok_left, ok_right}

-- ---- tokens that are the same before others

-- the last of the tokens, if there is one, is the same before both
abbrev pub EndTheSame : List Token → List Token → List Token → Type 0
EndTheSame [] others rest = Unit {0}
EndTheSame (token ∷ []) others rest = IsSameBefore token others rest
EndTheSame (token ∷ (x ∷ used)) others rest = EndTheSame (x ∷ used) others rest

pub same_before : (token : Token) (others rest : List Token) → begins_with 42 others ≡ begins_with 42 rest → IsSameBefore token others rest
same_before (Number n) others rest e = e
same_before (Word w) others rest e = tt
same_before (Byte b) others rest e = tt
same_before Long others rest e = tt
same_before Bad others rest e = tt

end_the_same : (used others rest : List Token) → begins_with 42 others ≡ begins_with 42 rest → EndTheSame used others rest
end_the_same [] others rest e = tt
end_the_same (token ∷ []) others rest e = same_before token others rest e
end_the_same (token ∷ (x ∷ used)) others rest e = end_the_same (x ∷ used) others rest e

pub same_last : (front : List Token) (token : Token) (others rest : List Token) → IsSameBefore token others rest → EndTheSame (front ++ token ∷ []) others rest
same_last [] token others rest h = h
same_last (x ∷ []) token others rest h = h
same_last (x ∷ (y ∷ front)) token others rest h = same_last (y ∷ front) token others rest h

same_tail : (token : Token) (used others rest : List Token) → EndTheSame (token ∷ used) others rest → EndTheSame used others rest
same_tail token [] others rest h = tt
same_tail token (x ∷ used) others rest h = h

same_right : (used further others rest : List Token) → EndTheSame (used ++ further) others rest → EndTheSame further others rest
same_right [] further others rest h = h
same_right (token ∷ used) further others rest h = same_right used further others rest (same_tail token (used ++ further) others rest h)

same_left : (used further others rest : List Token) → EndTheSame (used ++ further) others rest → EndTheSame used (further ++ others) (further ++ rest)
same_left used [] others rest h = subst (λ (x : List Token). EndTheSame x others rest) (append-nil used) h
same_left used (x ∷ further) others rest h = end_the_same used (x ∷ (further ++ others)) (x ∷ (further ++ rest)) refl

-- the tokens begin alike, as far as the token that is refused
pub begins-same : (c : ℕ) (front : List Token) (token : Token) (back beyond : List Token) → begins_with c (front ++ token ∷ back) ≡ begins_with c (front ++ token ∷ beyond)
begins-same c [] token back beyond = refl
begins-same c (x ∷ front) token back beyond = refl

-- ---- what reading looks at

-- what was read of the tokens, whatever stands behind them
pub record IsReadFrom {X : Type 0} (read : List Token → Reading X) (ts : List Token) (x : X) (rest : List Token) : Type 0 where
  pub used : List Token
  pub parted : ts ≡ used ++ rest
  pub again : (others : List Token) → EndTheSame used others rest → read (used ++ others) ≡ Ok (x, others)

-- Reading looks at no token behind those that it reads, or behind the one that it refuses, but at '*' behind a number.
pub record IsLocal {X : Type 0} (read : List Token → Reading X) : Type 0 where
  pub bounded : (ts : List Token) (fault : Fault) → read ts ≡ Err fault → fault.0 ≤ length ts
  pub goes : (ts : List Token) (x : X) (rest : List Token) → read ts ≡ Ok (x, rest) → IsReadFrom read ts x rest
  pub stops : (front : List Token) (token : Token) (back beyond : List Token) (kind : DocKind) → IsSameBefore token beyond back → read (front ++ token ∷ back) ≡ Err (suc (length back), kind)
      → read (front ++ token ∷ beyond) ≡ Err (suc (length beyond), kind)

-- ---- one list that is parted in two ways

pub record IsWithin (used rest front back : List Token) : Type 0 where
  pub between : List Token
  pub front_is : front ≡ used ++ between
  pub rest_is : rest ≡ between ++ back

-- what stands behind isn't among the tokens that were read
pub within : (used rest front back : List Token) → used ++ rest ≡ front ++ back → length back ≤ length rest → IsWithin used rest front back
within [] rest front back e l = record { between = front; front_is = refl; rest_is = e }
within (u ∷ us) rest [] back e l = absurd (omega (arith, l, length-append us rest, ap length e))
within (u ∷ us) rest (f ∷ fs) back e l =
    let same : u ≡ f = cc in
    let others : us ++ rest ≡ fs ++ back = cc in
    let inside : IsWithin us rest fs back = within us rest fs back others l in
    record { between = inside.between; front_is = ap (λ x. f ∷ x) inside.front_is ∙ ap (λ x. x ∷ (us ++ inside.between)) (sym same); rest_is = inside.rest_is }

-- ---- one thing and then another

abbrev pub joined : {X Y : Type 0} → (List Token → Reading X) → (X → List Token → Reading Y) → List Token → Reading Y
joined {X = X} read next ts = read ts >>= (λ (found : X × List Token). next found.0 found.1)

module _ {X Y : Type 0} (read : List Token → Reading X) (next : X → List Token → Reading Y) (local : IsLocal read) (local_next : (x : X) → IsLocal (next x)) where
  joined_bounded : (ts : List Token) (m : Reading X) (fault : Fault) → read ts ≡ m → (m >>= (λ (found : X × List Token). next found.0 found.1)) ≡ Err fault → fault.0 ≤ length ts
  joined_bounded ts (Err first) fault is e = let same : first ≡ fault = cc in subst (λ (f : Fault). f.0 ≤ length ts) same (local.bounded ts first is)
  joined_bounded ts (Ok found) fault is e =
      let gone = local.goes ts found.0 found.1 is in
      let inner = (local_next found.0).bounded found.1 fault e in
      omega (arith, inner, ap length gone.parted, length-append gone.used found.1)

  joined_goes : (ts : List Token) (m : Reading X) (y : Y) (rest : List Token) → read ts ≡ m → (m >>= (λ (found : X × List Token). next found.0 found.1)) ≡ Ok (y, rest) → IsReadFrom (joined read next) ts y rest
  joined_goes ts (Err first) y rest is e = absurd cc
  joined_goes ts (Ok found) y rest is e =
      let gone = local.goes ts found.0 found.1 is in
      let inner = (local_next found.0).goes found.1 y rest e in
      record {
        used = gone.used ++ inner.used;
        parted = gone.parted ∙ ap (λ x. gone.used ++ x) inner.parted ∙ sym (append_assoc gone.used inner.used rest);
        again = λ others h.
            ap (joined read next) (append_assoc gone.used inner.used others)
            ∙ ap (λ (m : Reading X). m >>= (λ (found : X × List Token). next found.0 found.1))
            (gone.again (inner.used ++ others) (subst (λ (r : List Token). EndTheSame gone.used (inner.used ++ others) r) (sym inner.parted) (same_left gone.used inner.used others rest h)))
            ∙ inner.again others (same_right gone.used inner.used others rest h);
      }

  joined_stops : (front : List Token) (token : Token) (back beyond : List Token) (kind : DocKind) → IsSameBefore token beyond back → (m : Reading X) → read (front ++ token ∷ back) ≡ m
      → (m >>= (λ (found : X × List Token). next found.0 found.1)) ≡ Err (suc (length back), kind) → joined read next (front ++ token ∷ beyond) ≡ Err (suc (length beyond), kind)
  joined_stops front token back beyond kind h (Err first) is e =
      let same : first ≡ (suc (length back), kind) = cc in
      ap (λ (m : Reading X). m >>= (λ (found : X × List Token). next found.0 found.1)) (local.stops front token back beyond kind h (is ∙ ap Err same))
  joined_stops front token back beyond kind h (Ok found) is e =
      let gone = local.goes (front ++ token ∷ back) found.0 found.1 is in
      let l = (local_next found.0).bounded found.1 (suc (length back), kind) e in
      let w = within gone.used found.1 front (token ∷ back) (sym gone.parted) l in
      let inner = (local_next found.0).stops w.between token back beyond kind h (ap (next found.0) (sym w.rest_is) ∙ e) in
      let used = subst (λ (r : List Token). EndTheSame gone.used (w.between ++ token ∷ beyond) r) (sym w.rest_is)
      (end_the_same gone.used (w.between ++ token ∷ beyond) (w.between ++ token ∷ back) (sym (begins-same 42 w.between token back beyond))) in
      ap (joined read next) (ap (λ f. f ++ token ∷ beyond) w.front_is ∙ append_assoc gone.used w.between (token ∷ beyond))
      ∙ ap (λ (m : Reading X). m >>= (λ (found : X × List Token). next found.0 found.1)) (gone.again (w.between ++ token ∷ beyond) used) ∙ inner

  pub local_joined : IsLocal (joined read next)
  local_joined = record {
    bounded = λ ts fault e. joined_bounded ts (read ts) fault refl e;
    goes = λ ts y rest e. joined_goes ts (read ts) y rest refl e;
    stops = λ front token back beyond kind h e. joined_stops front token back beyond kind h (read (front ++ token ∷ back)) refl e;
  }

pub local_same : {X : Type 0} (read other : List Token → Reading X) → ((ts : List Token) → read ts ≡ other ts) → IsLocal other → IsLocal read
local_same read other same local = record {
  bounded = λ ts fault e. local.bounded ts fault (sym (same ts) ∙ e);
  goes = λ ts x rest e. (let gone = local.goes ts x rest (sym (same ts) ∙ e) in record { used = gone.used; parted = gone.parted; again = λ others h. same (gone.used ++ others) ∙ gone.again others h });
  stops = λ front token back beyond kind h e. same (front ++ token ∷ beyond) ∙ local.stops front token back beyond kind h (sym (same (front ++ token ∷ back)) ∙ e);
}

-- nothing is read
pub local_done : {X : Type 0} (x : X) → IsLocal (λ (ts : List Token). Ok (x, ts))
local_done {X = X} x = record {
  bounded = λ ts fault e. absurd cc;
  goes = λ ts y rest e. record { used = []; parted = ok_right x y ts rest e; again = λ others h. ap (λ (z : X). Ok (z, others)) (ok_left x y ts rest e) };
  stops = λ front token back beyond kind h e. absurd cc;
}

-- ---- reading by the first token

-- what one token alone gives
abbrev pub given : {X : Type 0} → Result X DocKind → List Token → Reading X
given (Ok x) rest = Ok (x, rest)
given (Err kind) rest = Err (suc (length rest), kind)

-- the token alone gives it, where it's known whether '*' comes next
pub record IsGiven {X : Type 0} (read : List Token → Reading X) (token : Token) : Type 0 where
  pub contents : Bool → Result X DocKind
  pub is : (rest : List Token) → read (token ∷ rest) ≡ given (contents (begins_with 42 rest)) rest
  pub same : (others rest : List Token) → IsSameBefore token others rest → contents (begins_with 42 others) ≡ contents (begins_with 42 rest)

pub record IsGoneInto {X : Type 0} (read : List Token → Reading X) (token : Token) : Type 0 where
  pub inner : List Token → Reading X
  pub local : IsLocal inner
  pub is : (rest : List Token) → read (token ∷ rest) ≡ inner rest

pub record IsByToken {X : Type 0} (read : List Token → Reading X) : Type 0 where
  pub kind : DocKind
  pub ends : read [] ≡ Err (0, kind)
  pub starts : (token : Token) → IsGiven read token ⊎ IsGoneInto read token

given_ok : {X : Type 0} (contents : Result X DocKind) (x : X) (others rest : List Token) → given contents others ≡ Ok (x, rest) → (others ≡ rest) × (contents ≡ Ok x)
given_ok (Ok y) x others rest e = (ok_right y x others rest e, ap Ok (ok_left y x others rest e))
given_ok (Err kind) x others rest e = absurd cc

given_bounded : {X : Type 0} (contents : Result X DocKind) (others : List Token) (fault : Fault) → given contents others ≡ Err fault → fault.0 ≡ suc (length others)
given_bounded (Ok y) others fault e = absurd cc
given_bounded (Err kind) others fault e = let same : (suc (length others), kind) ≡ fault = cc in ap (λ (f : Fault). f.0) (sym same)

given_again : {X : Type 0} (contents : Result X DocKind) (others beyond : List Token) (kind : DocKind) → given contents others ≡ Err (suc (length others), kind) → given contents beyond ≡ Err (suc (length beyond), kind)
given_again (Ok y) others beyond kind e = absurd cc
given_again (Err other) others beyond kind e =
    let same : ◌≡◌ {A = Fault} (suc (length others), other) (suc (length others), kind) = cc in
    ap (λ (k : DocKind). Err (suc (length beyond), k)) (ap (λ (f : Fault). f.1) same)

module _ {X : Type 0} (read : List Token → Reading X) (wise : IsByToken read) where
  end_fault : (fault : Fault) → read [] ≡ Err fault → fault.0 ≡ 0
  end_fault fault e = let same : ◌≡◌ {A = Reading X} (Err fault) (Err (0, wise.kind)) = sym e ∙ wise.ends in let first : fault ≡ (0, wise.kind) = cc in ap (λ (f : Fault). f.0) first

  first_bounded : (token : Token) (rest : List Token) → IsGiven read token ⊎ IsGoneInto read token → (fault : Fault) → read (token ∷ rest) ≡ Err fault → fault.0 ≤ suc (length rest)
  first_bounded token rest (inl g) fault e = let is = given_bounded (g.contents (begins_with 42 rest)) rest fault (sym (g.is rest) ∙ e) in omega (arith, is)
  first_bounded token rest (inr g) fault e = let l = g.local.bounded rest fault (sym (g.is rest) ∙ e) in omega (arith, l)

  token_bounded : (ts : List Token) (fault : Fault) → read ts ≡ Err fault → fault.0 ≤ length ts
  token_bounded [] fault e = let is = end_fault fault e in omega (arith, is)
  token_bounded (token ∷ rest) fault e = first_bounded token rest (wise.starts token) fault e

  first_goes : (token : Token) (others : List Token) → IsGiven read token ⊎ IsGoneInto read token → (x : X) (rest : List Token) → read (token ∷ others) ≡ Ok (x, rest) → IsReadFrom read (token ∷ others) x rest
  first_goes token others (inl g) x rest e =
      let both = given_ok (g.contents (begins_with 42 others)) x others rest (sym (g.is others) ∙ e) in
      record {
        used = token ∷ [];
        parted = ap (λ ts. token ∷ ts) both.0;
        again = λ beyond h. g.is beyond ∙ ap (λ (contents : Result X DocKind). given contents beyond) (g.same beyond rest h ∙ ap (λ (ts : List Token). g.contents (begins_with 42 ts)) (sym both.0) ∙ both.1);
      }
  first_goes token others (inr g) x rest e =
      let gone = g.local.goes others x rest (sym (g.is others) ∙ e) in
      record { used = token ∷ gone.used; parted = ap (λ ts. token ∷ ts) gone.parted; again = λ beyond h. g.is (gone.used ++ beyond) ∙ gone.again beyond (same_tail token gone.used beyond rest h) }

  token_goes : (ts : List Token) (x : X) (rest : List Token) → read ts ≡ Ok (x, rest) → IsReadFrom read ts x rest
  token_goes [] x rest e = let same : ◌≡◌ {A = Reading X} (Ok (x, rest)) (Err (0, wise.kind)) = sym e ∙ wise.ends in absurd cc
  token_goes (token ∷ others) x rest e = first_goes token others (wise.starts token) x rest e

  first_stops : (token : Token) (back beyond : List Token) (kind : DocKind) → IsSameBefore token beyond back → IsGiven read token ⊎ IsGoneInto read token → read (token ∷ back) ≡ Err (suc (length back), kind)
      → read (token ∷ beyond) ≡ Err (suc (length beyond), kind)
  first_stops token back beyond kind h (inl g) e =
      g.is beyond ∙ ap (λ (contents : Result X DocKind). given contents beyond) (g.same beyond back h) ∙ given_again (g.contents (begins_with 42 back)) back beyond kind (sym (g.is back) ∙ e)
  first_stops token back beyond kind h (inr g) e = let l = g.local.bounded back (suc (length back), kind) (sym (g.is back) ∙ e) in absurd (omega (arith, l))

  later_stops : (first : Token) (front : List Token) (token : Token) (back beyond : List Token) (kind : DocKind) → IsSameBefore token beyond back → IsGiven read first ⊎ IsGoneInto read first
      → read (first ∷ (front ++ token ∷ back)) ≡ Err (suc (length back), kind) → read (first ∷ (front ++ token ∷ beyond)) ≡ Err (suc (length beyond), kind)
  later_stops first front token back beyond kind h (inl g) e =
      let is = given_bounded (g.contents (begins_with 42 (front ++ token ∷ back))) (front ++ token ∷ back) (suc (length back), kind) (sym (g.is (front ++ token ∷ back)) ∙ e) in
      absurd (omega (arith, is, length-append front (token ∷ back)))
  later_stops first front token back beyond kind h (inr g) e = g.is (front ++ token ∷ beyond) ∙ g.local.stops front token back beyond kind h (sym (g.is (front ++ token ∷ back)) ∙ e)

  token_stops : (front : List Token) (token : Token) (back beyond : List Token) (kind : DocKind) → IsSameBefore token beyond back → read (front ++ token ∷ back) ≡ Err (suc (length back), kind)
      → read (front ++ token ∷ beyond) ≡ Err (suc (length beyond), kind)
  token_stops [] token back beyond kind h e = first_stops token back beyond kind h (wise.starts token) e
  token_stops (first ∷ front) token back beyond kind h e = later_stops first front token back beyond kind h (wise.starts first) e

  pub local_by_token : IsLocal read
  local_by_token = record { bounded = token_bounded; goes = token_goes; stops = token_stops }

-- ---- marks

two_told : {X : Type 0} → X → Bool → Bool → DocKind → DocKind → Result X DocKind
two_told x true b kind other = Err kind
two_told x false true kind other = Ok x
two_told x false false kind other = Err other

two_given : {X : Type 0} (x : X) (a b : Bool) (kind other : DocKind) (rest : List Token)
    → (refused (suc (length rest)) (first_row ((a, kind) ∷ (not b, other) ∷ [])) (Ok rest) >>= (λ (ts : List Token). Ok (x, ts))) ≡ given (two_told x a b kind other) rest
unfolding two_told
two_given x true b kind other rest = refl
two_given x false true kind other rest = refl
two_given x false false kind other rest = refl

one_given : {X : Type 0} (x : X) (b : Bool) (kind other : DocKind) (rest : List Token)
    → ((if b then Ok rest else Err (suc (length rest), other)) >>= (λ (ts : List Token). Ok (x, ts))) ≡ given (two_told x false b kind other) rest
unfolding two_told
one_given x true kind other rest = refl
one_given x false kind other rest = refl

pub before_by_token : (first : Bool) → IsByToken (λ ts. before_in first ts >>= (λ (rest : List Token). Ok (true, rest)))
before_by_token true = record {
  kind = Syntax;
  ends = refl;
  starts = λ token. inl (record {
    contents = λ star. two_told true false (is_mark 40 token) InputCount (misplaced token);
    is = λ rest. one_given true (is_mark 40 token) InputCount (misplaced token) rest;
    same = λ others rest h. refl;
  });
}
before_by_token false = record {
  kind = Syntax;
  ends = refl;
  starts = λ token. inl (record {
    contents = λ star. two_told true (is_mark 41 token) (is_mark 44 token) InputCount (misplaced token);
    is = λ rest. two_given true (is_mark 41 token) (is_mark 44 token) InputCount (misplaced token) rest;
    same = λ others rest h. refl;
  });
}

pub close_by_token : {X : Type 0} (x : X) → IsByToken (λ ts. close_in ts >>= (λ (rest : List Token). Ok (x, rest)))
close_by_token x = record {
  kind = Syntax;
  ends = refl;
  starts = λ token. inl (record {
    contents = λ star. two_told x (is_mark 44 token) (is_mark 41 token) InputCount (misplaced token);
    is = λ rest. two_given x (is_mark 44 token) (is_mark 41 token) InputCount (misplaced token) rest;
    same = λ others rest h. refl;
  });
}
