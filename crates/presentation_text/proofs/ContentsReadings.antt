-- What the lines of a presentation say is well formed.
use Rattle.std.proofs.Common.{◌≡◌, ◌<◌, ◌≤◌, ◌+◌, ◌==◌, ◌&&◌, ◌||◌, ◌⊎◌, inl, inr, ℕ, suc, Bool, true, false, not, cond, nat_le, nat_lt, codes, List, [], ◌∷◌, ◌++◌, length, Option, Some, None, Ok, add-one, arith, rules, ap, sym, ◌∙◌, refl, subst, length-append}
use Rattle.std.specs.List.{All}
use Rattle.std.proofs.lemmas.List.{length-set}
use Rattle.std.proofs.lemmas.List.Elements.{All-nil, All-push, All-set}
use Rattle.std.proofs.lemmas.List.Quantifiers.{all_pairs_push}
use Rattle.modular_sums.specs.Lists.{Mem}
use Rattle.labelled_trees.specs.Trees.{Tree}
use Rattle.prime_field.specs.Primes.{IsFieldPrime}
use Rattle.symmetric_trees.specs.Generators.{IsTable}
use Rattle.symmetric_trees.specs.declared.generators.Generator.{Generator}
use Rattle.symmetric_trees.proofs.Tables.{table-push}
use Rattle.presentation_text.specs.Accepted.{ElementsAreAccepted}
use Rattle.presentation_text.specs.ElementReadings.{arity_of_first, element_in}
use Rattle.presentation_text.specs.Elements.{Written, written_sum}
use Rattle.presentation_text.specs.LineReadings.{Asked, Contents, field_line, gen_line, generator_in, inputs_in, is, is_prime, known, order_line, order_named, prime_of, query, query_in, query_line, rel_line, same, same_in, same_line, contents_by_header, weighed, weight_line, is_weighed, with_ask, with_generator}
use Rattle.presentation_text.specs.Readings.{end_in, first_row, mark_in, number_in, refused, word_in}
use Rattle.presentation_text.specs.Tokens.{IsWord}
use Rattle.presentation_text.specs.TreeReadings.{demands_of, index_of}
use Rattle.presentation_text.specs.WellFormed.{AreAsks, AreRelations, IsAsked, IsGeneratorName, IsWrittenAs, AreWellFormed}
use Rattle.presentation_text.specs.declared.document.OrderName.{OrderName}
use Rattle.presentation_text.specs.declared.document.OrderName.TheVariants.{Path, PathShort, LeafPath, WeightPath}
use Rattle.presentation_text.specs.declared.kinds.DocKind.TheVariants as kind
use Rattle.presentation_text.specs.declared.lexing.Token.{Token}
use Rattle.presentation_text.specs.declared.lexing.Token.TheVariants.{Word}
use Rattle.presentation_text.proofs.LineReadingsGenerators.{generator_read, generator_welcome, symmetry_read}
use Rattle.presentation_text.proofs.LineReadingsNumbers.{equal_told, not_at_most_told, not_below_told, not_false_told, weighed_set}
use Rattle.presentation_text.proofs.LineReadingsRead.{both_read, not_refused, one_value, was_known}
use Rattle.presentation_text.proofs.LineReadingsTables.{table-empty}
use Rattle.presentation_text.proofs.DocumentReadingsOnce.{same_value}

-- ---- presentations so far

-- a presentation so far is well formed, and its questions stand before a line
pub record StandsBefore (number : ℕ) (contents : Contents) : Type 0 where
  pub well : AreWellFormed contents
  pub below : All (λ (ask : ℕ × Asked). ask.0 < number) contents.asks

-- each word among tokens is one
abbrev pub HasWords : List Token → Type 0
HasWords ts = (w : List ℕ) → Mem (Word w) ts → IsWord w

no_relations : (p : ℕ) (generators : List Generator) (relations : List (List (ℕ × Tree ℕ))) → relations ≡ [] → AreRelations p generators relations
no_relations p generators relations e = subst (AreRelations p generators) (sym e) (record { few = omega arith; written_so = All-nil (IsWrittenAs p generators 2 None) })

no_asks : (p : ℕ) (generators : List Generator) (asks : List (ℕ × Asked)) → asks ≡ [] → AreAsks p generators asks
no_asks p generators asks e =
    subst (AreAsks p generators) (sym e) (record { asked_so = All-nil (λ (ask : ℕ × Asked). IsAsked p generators ask.1); rising = search rules })

below_more : (number : ℕ) (asks : List (ℕ × Asked)) → All (λ (ask : ℕ × Asked). ask.0 < number) asks → All (λ (ask : ℕ × Asked). ask.0 < number + 1) asks
below_more number asks h k d l = let before = h k d l in omega arith

-- a line that is passed over
pub later : (number : ℕ) (contents : Contents) → StandsBefore number contents → StandsBefore (suc number) contents
later number contents h = record { well = h.well; below = subst (λ n. All (λ (ask : ℕ × Asked). ask.0 < n) contents.asks) (add-one number) (below_more number contents.asks h.below) }

-- what a header says
pub header_stands : (number version : ℕ) → (version ≡ 1) ⊎ (version ≡ 2) → StandsBefore number (contents_by_header version)
header_stands number version v = record {
  well = record {
    version_is = v;
    field_is = λ p e. absurd cc;
    order_is = λ e. absurd cc;
    generators = record { table = table-empty; names = All-nil (λ (g : Generator). IsGeneratorName g.name); one_part = λ e. All-nil (λ (g : Generator). length g.parts ≡ 1) };
    weights = record { places = refl; small = All-nil (λ (w : Option ℕ). (n : ℕ) → w ≡ Some n → n ≤ 1000000); unweighed = λ e. All-nil (λ (w : Option ℕ). w ≡ None) };
    relations = no_relations 3 [] [] refl;
    asks = no_asks 3 [] [] refl;
    sections = record { last = omega arith; no_field = λ l. refl; no_order = λ l. refl; no_generators = λ l. refl; no_relations = λ l. refl; no_asks = λ l. refl };
  };
  below = All-nil (λ (ask : ℕ × Asked). ask.0 < number);
}

-- ---- the field and the order

of_either : {P : Type 0} (a b : Bool) → (a || b) ≡ true → (a ≡ true → P) → (b ≡ true → P) → P
of_either true b e f g = f refl
of_either false b e f g = g e

prime_told : (p : ℕ) → is_prime p ≡ true → IsFieldPrime p
prime_told p e =
    of_either (p == 3 || p == 5 || p == 7 || p == 101 || p == 32003) (p == 65537) e
    (λ a. of_either (p == 3 || p == 5 || p == 7 || p == 101) (p == 32003) a
    (λ b. of_either (p == 3 || p == 5 || p == 7) (p == 101) b
    (λ c. of_either (p == 3 || p == 5) (p == 7) c
    (λ d. of_either (p == 3) (p == 5) d (λ x. inl (equal_told p 3 x)) (λ x. inr (inl (equal_told p 5 x))))
    (λ x. inr (inr (inl (equal_told p 7 x)))))
    (λ x. inr (inr (inr (inl (equal_told p 101 x))))))
    (λ x. inr (inr (inr (inr (inl (equal_told p 32003 x)))))))
    (λ x. inr (inr (inr (inr (inr (inl (equal_told p 65537 x)))))))

field_read : (contents now : Contents) (ts : List Token) → field_line contents ts ≡ Ok now → (p : ℕ) × (is_prime p ≡ true) × (now ≡ record contents { field = Some p; section = 2 })
unfolding field_line
field_read contents now ts e =
    let number = both_read (number_in ts) _ now e in
    let end = both_read (refused (suc (length (number.0).1)) (first_row ((not (is_prime (number.0).0), kind.FieldUnknown) ∷ [])) (end_in (number.0).1)) _ now number.2 in
    let out = not_refused (suc (length (number.0).1)) (not (is_prime (number.0).0)) kind.FieldUnknown (end_in (number.0).1) end.0 end.1 in
    let whole : Contents = record contents { field = Some (number.0).0; section = 2 } in
    ((number.0).0, not_false_told (is_prime (number.0).0) out.0, sym (one_value (Ok whole) whole now refl end.2))

pub field_stands : (number : ℕ) (contents now : Contents) (ts : List Token) → StandsBefore number contents → contents.section ≤ 2 → field_line contents ts ≡ Ok now → StandsBefore (number + 1) now
field_stands number contents now ts h l e =
    let read = field_read contents now ts e in
    let well = h.well in
    let sections = well.sections in
    subst (StandsBefore (number + 1)) (sym read.2) (record {
      well = record {
        version_is = well.version_is;
        field_is = λ q f. subst IsFieldPrime (same_value (Some read.0) read.0 q refl f) (prime_told read.0 read.1);
        order_is = well.order_is;
        generators = well.generators;
        weights = well.weights;
        relations = no_relations read.0 contents.generators contents.relations (sections.no_relations (omega arith));
        asks = no_asks read.0 contents.generators contents.asks (sections.no_asks (omega arith));
        sections = record {
          last = omega arith;
          no_field = λ k. absurd (omega arith);
          no_order = λ k. sections.no_order (omega arith);
          no_generators = λ k. sections.no_generators (omega arith);
          no_relations = λ k. sections.no_relations (omega arith);
          no_asks = λ k. sections.no_asks (omega arith);
        };
      };
      below = below_more number contents.asks h.below;
    })

weighted_order : (a b c d : Bool) (version : ℕ) → cond a (Some Path) (cond b (Some PathShort) (cond c (Some LeafPath) (cond (version == 2 && d) (Some WeightPath) None))) ≡ Some WeightPath → version ≡ 2
weighted_order true b c d version e = absurd cc
weighted_order false true c d version e = absurd cc
weighted_order false false true d version e = absurd cc
weighted_order false false false d version e = two (version == 2) d version refl e
  where
    two : (s t : Bool) (v : ℕ) → (v == 2) ≡ s → cond (s && t) (Some WeightPath) None ≡ Some WeightPath → v ≡ 2
    two true t v f g = equal_told v 2 f
    two false t v f g = absurd cc

order_read : (contents now : Contents) (ts : List Token) → order_line contents ts ≡ Ok now
    → (order : OrderName) × (w : List ℕ) × (order_named contents.version w ≡ Some order) × (now ≡ record contents { order = Some order; section = 3 })
unfolding order_line
order_read contents now ts e =
    let word = both_read (word_in ts) _ now e in
    let order = both_read (known (suc (length (word.0).1)) kind.OrderUnknown (order_named contents.version (word.0).0)) _ now word.2 in
    let end = both_read (end_in (word.0).1) _ now order.2 in
    let whole : Contents = record contents { order = Some order.0; section = 3 } in
    (order.0, (word.0).0, was_known (suc (length (word.0).1)) kind.OrderUnknown (order_named contents.version (word.0).0) order.0 order.1, sym (one_value (Ok whole) whole now refl end.2))

pub order_stands : (number : ℕ) (contents now : Contents) (ts : List Token) → StandsBefore number contents → contents.section ≤ 3 → order_line contents ts ≡ Ok now → StandsBefore (number + 1) now
order_stands number contents now ts h l e =
    let read = order_read contents now ts e in
    let well = h.well in
    let sections = well.sections in
    let w = read.1 in
    subst (StandsBefore (number + 1)) (sym read.3) (record {
      well = record {
        version_is = well.version_is;
        field_is = well.field_is;
        order_is = λ f. weighted_order (is w (codes "path")) (is w (codes "pathshort")) (is w (codes "leafpath")) (is w (codes "weightpath")) contents.version (read.2 ∙ f);
        generators = well.generators;
        weights = well.weights;
        relations = well.relations;
        asks = well.asks;
        sections = record {
          last = omega arith;
          no_field = λ k. absurd (omega arith);
          no_order = λ k. absurd (omega arith);
          no_generators = λ k. sections.no_generators (omega arith);
          no_relations = λ k. sections.no_relations (omega arith);
          no_asks = λ k. sections.no_asks (omega arith);
        };
      };
      below = below_more number contents.asks h.below;
    })

-- ---- generators and weights

gen_read : (contents now : Contents) (ts : List Token) → gen_line contents ts ≡ Ok now → (generator : Generator) × (generator_in contents.version contents.generators ts ≡ Ok generator) × (now ≡ with_generator contents generator)
unfolding gen_line
gen_read contents now ts e =
    let generator = both_read (generator_in contents.version contents.generators ts) _ now e in
    let whole : Contents = with_generator contents generator.0 in
    (generator.0, generator.1, sym (one_value (Ok whole) whole now refl generator.2))

pub gen_stands : (number : ℕ) (contents now : Contents) (ts : List Token) → HasWords ts → StandsBefore number contents → contents.section ≤ 4 → gen_line contents ts ≡ Ok now → StandsBefore (number + 1) now
gen_stands number contents now ts words h l e =
    let read = gen_read contents now ts e in
    let well = h.well in
    let sections = well.sections in
    let generator = read.0 in
    let made = generator_read contents.version contents.generators ts generator read.1 in
    let p = prime_of contents.field in
    let gens = contents.generators ++ generator ∷ [] in
    let first : Mem (Word generator.name) ts = subst (Mem (Word generator.name)) (sym made.named.tokens_are) (inl refl) in
    subst (StandsBefore (number + 1)) (sym read.2) (record {
      well = record {
        version_is = well.version_is;
        field_is = well.field_is;
        order_is = well.order_is;
        generators = record {
          table = table-push contents.generators generator well.generators.table (generator_welcome contents.version contents.generators ts generator read.1);
          names = All-push (λ (g : Generator). IsGeneratorName g.name) contents.generators generator well.generators.names (record { word = words generator.name first; short = made.named.short });
          one_part = λ one.
              let parts = subst (λ version. inputs_in version generator.arity made.rest ≡ Ok generator.parts) one made.parts in
              All-push (λ (g : Generator). length g.parts ≡ 1) contents.generators generator (well.generators.one_part one) (ap length (symmetry_read generator.arity made.rest generator.parts parts).1);
        };
        weights = record {
          places = omega (arith, well.weights.places, length-append contents.weights (None ∷ []), length-append contents.generators (generator ∷ []));
          small = All-push (λ (w : Option ℕ). (n : ℕ) → w ≡ Some n → n ≤ 1000000) contents.weights None well.weights.small (λ n f. absurd cc);
          unweighed = λ one. All-push (λ (w : Option ℕ). w ≡ None) contents.weights None (well.weights.unweighed one) refl;
        };
        relations = no_relations p gens contents.relations (sections.no_relations (omega arith));
        asks = no_asks p gens contents.asks (sections.no_asks (omega arith));
        sections = record {
          last = omega arith;
          no_field = λ k. absurd (omega arith);
          no_order = λ k. absurd (omega arith);
          no_generators = λ k. absurd (omega arith);
          no_relations = λ k. sections.no_relations (omega arith);
          no_asks = λ k. sections.no_asks (omega arith);
        };
      };
      below = below_more number contents.asks h.below;
    })

weight_read : (contents now : Contents) (ts : List Token) → weight_line contents ts ≡ Ok now → (g : ℕ) × (n : ℕ) × (n ≤ 1000000) × (now ≡ record contents { weights = weighed g n contents.weights; section = 4 })
unfolding weight_line
weight_read contents now ts e =
    let word = both_read (word_in ts) _ now e in
    let g = both_read (known (suc (length (word.0).1)) kind.NameUnknown (index_of (word.0).0 contents.generators)) _ now word.2 in
    let n = both_read (refused (suc (length (word.0).1)) (first_row ((is_weighed g.0 contents.weights, kind.WeightTaken) ∷ [])) (number_in (word.0).1)) _ now g.2 in
    let end = both_read (refused (suc (length (n.0).1)) (first_row ((nat_lt 1000000 (n.0).0, kind.WeightOut) ∷ [])) (end_in (n.0).1)) _ now n.2 in
    let out = not_refused (suc (length (n.0).1)) (nat_lt 1000000 (n.0).0) kind.WeightOut (end_in (n.0).1) end.0 end.1 in
    let whole : Contents = record contents { weights = weighed g.0 (n.0).0 contents.weights; section = 4 } in
    (g.0, (n.0).0, not_below_told 1000000 (n.0).0 out.0, sym (one_value (Ok whole) whole now refl end.2))

pub weight_stands : (number : ℕ) (contents now : Contents) (ts : List Token) → (contents.version ≡ 1 → ⊥) → StandsBefore number contents → contents.section ≤ 4 → weight_line contents ts ≡ Ok now → StandsBefore (number + 1) now
weight_stands number contents now ts two h l e =
    let read = weight_read contents now ts e in
    let well = h.well in
    let sections = well.sections in
    let g = read.0 in
    let n = read.1 in
    let Small = λ (w : Option ℕ). (m : ℕ) → w ≡ Some m → m ≤ 1000000 in
    subst (StandsBefore (number + 1)) (sym read.3) (record {
      well = record {
        version_is = well.version_is;
        field_is = well.field_is;
        order_is = well.order_is;
        generators = well.generators;
        weights = record {
          places = ap length (weighed_set g n contents.weights) ∙ length-set contents.weights g (Some n) ∙ well.weights.places;
          small = subst (All Small) (sym (weighed_set g n contents.weights)) (All-set Small contents.weights g (Some n) (λ m f. subst (λ k. k ≤ 1000000) (same_value (Some n) n m refl f) read.2) well.weights.small);
          unweighed = λ one. absurd (two one);
        };
        relations = well.relations;
        asks = well.asks;
        sections = record {
          last = omega arith;
          no_field = λ k. absurd (omega arith);
          no_order = λ k. absurd (omega arith);
          no_generators = λ k. absurd (omega arith);
          no_relations = λ k. sections.no_relations (omega arith);
          no_asks = λ k. sections.no_asks (omega arith);
        };
      };
      below = below_more number contents.asks h.below;
    })

-- ---- relations and questions

rel_read : (contents now : Contents) (ts : List Token) → rel_line contents ts ≡ Ok now
    → (e : List Written × List Token) × (length contents.relations < 1000) × (element_in contents.generators (demands_of 2 None) ts ≡ Ok e)
    × (now ≡ record contents { relations = contents.relations ++ written_sum (prime_of contents.field) e.0 ∷ []; section = 5 })
unfolding rel_line
rel_read contents now ts e =
    let out = not_refused (suc (length ts)) (nat_le 1000 (length contents.relations)) kind.TooManyRelations _ now e in
    let element = both_read (element_in contents.generators (demands_of 2 None) ts) _ now out.1 in
    let end = both_read (end_in (element.0).1) _ now element.2 in
    let whole : Contents = record contents { relations = contents.relations ++ written_sum (prime_of contents.field) (element.0).0 ∷ []; section = 5 } in
    (element.0, not_at_most_told 1000 (length contents.relations) out.0, element.1, sym (one_value (Ok whole) whole now refl end.2))

pub rel_stands : ElementsAreAccepted → (number : ℕ) (contents now : Contents) (ts : List Token) → StandsBefore number contents → contents.section ≤ 5 → rel_line contents ts ≡ Ok now → StandsBefore (number + 1) now
rel_stands accepted number contents now ts h l e =
    let read = rel_read contents now ts e in
    let well = h.well in
    let sections = well.sections in
    let p = prime_of contents.field in
    let terms = (read.0).0 in
    let demanded = ((accepted contents.generators well.generators.table 2 None ts (read.0).1 terms).0 read.2).1 in
    subst (StandsBefore (number + 1)) (sym read.3) (record {
      well = record {
        version_is = well.version_is;
        field_is = well.field_is;
        order_is = well.order_is;
        generators = well.generators;
        weights = well.weights;
        relations = record {
          few = omega (arith, read.1, length-append contents.relations (written_sum p terms ∷ []));
          written_so =
              All-push (IsWrittenAs p contents.generators 2 None) contents.relations (written_sum p terms) well.relations.written_so
              (record { terms = terms; sum_is = refl; demanded = demanded });
        };
        asks = well.asks;
        sections = record {
          last = omega arith;
          no_field = λ k. absurd (omega arith);
          no_order = λ k. absurd (omega arith);
          no_generators = λ k. absurd (omega arith);
          no_relations = λ k. absurd (omega arith);
          no_asks = λ k. sections.no_asks (omega arith);
        };
      };
      below = below_more number contents.asks h.below;
    })

ask_stands : (number : ℕ) (contents : Contents) (ask : Asked) → IsAsked (prime_of contents.field) contents.generators ask → StandsBefore number contents → StandsBefore (number + 1) (with_ask contents number ask)
ask_stands number contents ask asked h =
    let well = h.well in
    let sections = well.sections in
    let p = prime_of contents.field in
    record {
      well = record {
        version_is = well.version_is;
        field_is = well.field_is;
        order_is = well.order_is;
        generators = well.generators;
        weights = well.weights;
        relations = well.relations;
        asks = record {
          asked_so = All-push (λ (a : ℕ × Asked). IsAsked p contents.generators a.1) contents.asks (number, ask) well.asks.asked_so asked;
          rising = all_pairs_push (λ (one other : ℕ × Asked). one.0 < other.0) contents.asks (number, ask) well.asks.rising h.below;
        };
        sections = record {
          last = omega arith;
          no_field = λ k. absurd (omega arith);
          no_order = λ k. absurd (omega arith);
          no_generators = λ k. absurd (omega arith);
          no_relations = λ k. absurd (omega arith);
          no_asks = λ k. absurd (omega arith);
        };
      };
      below = All-push (λ (a : ℕ × Asked). a.0 < number + 1) contents.asks (number, ask) (below_more number contents.asks h.below) (omega arith);
    }

query_told : ElementsAreAccepted → (p : ℕ) (generators : List Generator) (table : IsTable generators) (ts : List Token) (ask : Asked) → query_in p generators ts ≡ Ok ask → IsAsked p generators ask
unfolding query_in
query_told accepted p generators table ts ask e =
    let element = both_read (element_in generators (demands_of 1 None) ts) _ ask e in
    let end = both_read (end_in (element.0).1) _ ask element.2 in
    let terms = (element.0).0 in
    subst (IsAsked p generators) (one_value (Ok (query (written_sum p terms))) (query (written_sum p terms)) ask refl end.2)
    (record { terms = terms; sum_is = refl; demanded = ((accepted generators table 1 None ts (element.0).1 terms).0 element.1).1 })

same_told : ElementsAreAccepted → (p : ℕ) (generators : List Generator) (table : IsTable generators) (ts : List Token) (ask : Asked) → same_in p generators ts ≡ Ok ask → IsAsked p generators ask
unfolding same_in
same_told accepted p generators table ts ask e =
    let left = both_read (element_in generators (demands_of 1 None) ts) _ ask e in
    let rest = both_read (mark_in 61 (left.0).1) _ ask left.2 in
    let right = both_read (element_in generators (demands_of 1 (arity_of_first (left.0).0)) rest.0) _ ask rest.2 in
    let end = both_read (end_in (right.0).1) _ ask right.2 in
    let terms = (left.0).0 in
    let others = (right.0).0 in
    subst (IsAsked p generators) (one_value (Ok (same (written_sum p terms) (written_sum p others))) (same (written_sum p terms) (written_sum p others)) ask refl end.2) (record {
      first = record { terms = terms; sum_is = refl; demanded = ((accepted generators table 1 None ts (left.0).1 terms).0 left.1).1 };
      second = record { terms = others; sum_is = refl; demanded = ((accepted generators table 1 (arity_of_first terms) rest.0 (right.0).1 others).0 right.1).1 };
    })

pub query_stands : ElementsAreAccepted → (number : ℕ) (contents now : Contents) (ts : List Token) → StandsBefore number contents → query_line contents number ts ≡ Ok now → StandsBefore (number + 1) now
unfolding query_line
query_stands accepted number contents now ts h e =
    let ask = both_read (query_in (prime_of contents.field) contents.generators ts) _ now e in
    let whole : Contents = with_ask contents number ask.0 in
    subst (StandsBefore (number + 1)) (one_value (Ok whole) whole now refl ask.2)
    (ask_stands number contents ask.0 (query_told accepted (prime_of contents.field) contents.generators h.well.generators.table ts ask.0 ask.1) h)

pub same_stands : ElementsAreAccepted → (number : ℕ) (contents now : Contents) (ts : List Token) → StandsBefore number contents → same_line contents number ts ≡ Ok now → StandsBefore (number + 1) now
unfolding same_line
same_stands accepted number contents now ts h e =
    let ask = both_read (same_in (prime_of contents.field) contents.generators ts) _ now e in
    let whole : Contents = with_ask contents number ask.0 in
    subst (StandsBefore (number + 1)) (one_value (Ok whole) whole now refl ask.2)
    (ask_stands number contents ask.0 (same_told accepted (prime_of contents.field) contents.generators h.well.generators.table ts ask.0 ask.1) h)
