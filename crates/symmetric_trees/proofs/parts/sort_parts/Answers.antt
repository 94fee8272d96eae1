use Rattle.std.proofs.Common.{◌≡◌, ◌∙◌, ◌+◌, ◌-◌, ◌≤◌, ◌∷◌, ℕ, List, sym, ap, arith, map, drop, take, length, get_or, subst, refl, length-drop}
use Rattle.std.proofs.lemmas.List.{drop_more}
use Rattle.std.proofs.lemmas.List.Sums.{sum_by_more}
use Rattle.operad_ideals.proofs.SortedLists.{Apart, apart-take, apart-drop, apart-at, apart-from_at}
use Rattle.operad_ideals.proofs.SortedParts.{length-sort_part}
use Rattle.symmetric_trees.specs.Generators.{kind_of, part_of}
use Rattle.symmetric_trees.specs.Spelling.{meaning_of}
use Rattle.symmetric_trees.specs.declared.generators.Part.{Part}
use Rattle.symmetric_trees.specs.declared.generators.PartKind.TheVariants.{Sym}
use Rattle.symmetric_trees.proofs.Tables.{part_within}
use Rattle.symmetric_trees.proofs.SpellingSteps.{length-taken, rest-more, order-more, sign-more}
use Rattle.symmetric_trees.proofs.parts.sort_parts.Goals as goal

apart_part : {X : Type 0} (key : X → ℕ) (old cur : List X) (from k : ℕ) → Apart key old → drop from cur ≡ drop from old → Apart key (take k (drop from cur))
apart_part key old cur from k apart same = apart-take key k (drop from cur) (subst (Apart key) (sym same) (apart-drop key from old apart))

pub slice_bounds-sort_part-end : goal.slice_bounds-sort_part-end
slice_bounds-sort_part-end g c =
    let fits = part_within c.args.parts.now c.loop-part.part-index c.loop-part.from (length c.args.items.now) c.loop-part-test.true c.loop-part.invariant.place c.requires.sizes in
    omega (arith, fits, c.loop-part.auto.items)

pub sort_part-requires : goal.sort_part-requires
sort_part-requires g c =
    let apart = apart-from_at g.T.Keyed.key_of c.args.items.now c.requires.apart in
    apart-at g.T.Keyed.key_of _ (apart_part g.T.Keyed.key_of c.args.items.now c.loop-part.items c.loop-part.from _ apart c.loop-part.invariant.rest)

pub loop-part-preserved : goal.loop-part-preserved
loop-part-preserved g c =
    let parts = c.args.parts.now in
    let i = c.loop-part.part-index in
    let part : Part = get_or parts i (record { kind = Sym; size = 0 }) in
    let cur = c.loop-part.items in
    let old = c.args.items.now in
    let from = c.loop-part.from in
    let new = c.sort_part.new.items in
    let k = from + part.size - from in
    let e : k ≡ part.size = omega arith in
    let fits : from + part.size ≤ length cur =
    omega (arith, part_within parts i from (length old) c.loop-part-test.true c.loop-part.invariant.place c.requires.sizes, c.loop-part.auto.items) in
    let first : map part_of (drop i parts) ≡ part_of part ∷ map part_of (drop (i + 1) parts) = ap (map part_of) (drop_more parts i (record { kind = Sym; size = 0 }) c.loop-part-test.true) in
    let len : length new ≡ part.size =
    ap length c.sort_part.ensures.order ∙ length-sort_part g.T.Keyed.key_of (kind_of part.kind) (take k (drop from cur))
    ∙ length-taken k part.size (drop from cur) e (let d = length-drop from cur in omega (arith, d, fits)) in
    record {
      place = let more = sum_by_more (λ (p : Part). p.size) parts i (record { kind = Sym; size = 0 }) c.loop-part-test.true in omega (arith, more, c.loop-part.invariant.place);
      rest = rest-more cur old new from part.size k e fits len c.loop-part.invariant.rest;
      order = order-more g.T.Keyed.key_of (map part_of (drop i parts)) (map part_of (drop (i + 1) parts)) (part_of part) cur old new _ from part.size k first refl e fits
          c.loop-part.invariant.rest c.sort_part.ensures.order c.loop-part.invariant.order;
      sign = sign-more g.T.Keyed.key_of (map part_of (drop i parts)) (map part_of (drop (i + 1) parts)) (part_of part) cur old (meaning_of c.loop-part.sign) _ _ _ from part.size k first refl e
          c.loop-part.invariant.rest c.times-sign.ensures.product c.sort_part.ensures.sign c.loop-part.invariant.sign;
    }

pub overflow_add-to : goal.overflow_add-to
overflow_add-to g c =
    let fits = part_within c.args.parts.now c.loop-part.part-index c.loop-part.from (length c.args.items.now) c.loop-part-test.true c.loop-part.invariant.place c.requires.sizes in
    omega (arith, fits, c.requires.few)
