use Rattle.std.proofs.Common.{◌≡◌, ◌∙◌, ◌+◌, ◌-◌, ◌<◌, ◌∷◌, [], ◌++◌, length, map, take, sym, ap, ap₂, arith, subst}
use Rattle.std.proofs.lemmas.List.{take_all, map_more}
use Rattle.std.proofs.lemmas.Result.{IfOk-weaker}
use Rattle.std.proofs.lemmas.Option.{get_or_from_slice_get}
use Rattle.symmetric_trees.specs.Generators.{parts_at, generators_of}
use Rattle.symmetric_trees.proofs.Tables.{parts_at-held}
use Rattle.shuffle_trees.specs.LabelLists as kinds
use Rattle.shuffle_passage.specs.Words as spec
use Rattle.shuffle_passage.specs.LabelKinds.{kind_in}
use Rattle.shuffle_passage.specs.Passage.{AreLabelsOf}
use Rattle.shuffle_passage.proofs.WordTables.{length-words, read_words}
use Rattle.shuffle_passage.proofs.LabelKinds.{are_labels, few_labels}
use Rattle.shuffle_passage.proofs.labelling.labels_of.Goals as goal

pub bounds-as_slice-index : goal.bounds-as_slice-index
bounds-as_slice-index c =
    let n = length-words 0 c.args.table.now in
    let e = ap length (c.as_slice.ensures ∙ c.in_ok-words.ensures) in omega (arith, n, e, c.loop-index-test.true, c.len-index-end.ensures.length)

pub overflow_sub-own : goal.overflow_sub-own
overflow_sub-own c =
    let gens = c.args.table.now in
    let i = c.loop-index.index in
    let own = read_words gens c.as_slice.result.now i c.index-as_slice-index.result (c.as_slice.ensures ∙ c.in_ok-words.ensures) (omega (arith, c.loop-index-test.true, c.len-index-end.ensures.length)) c.index-as_slice-index.is in
    let first : c.index-as_slice-index.result.first ≡ spec.first_label (generators_of gens) i = ap (λ w. w.first) own in
    let end : c.index-as_slice-index.result.end ≡ spec.first_label (generators_of gens) i + spec.endings (spec.bounds_of (parts_at gens i)) 0 = ap (λ w. w.end) own in
    omega (arith, first, end)

pub loop-index-preserved : goal.loop-index-preserved
loop-index-preserved c =
    let gens = c.args.table.now in
    let i = c.loop-index.index in
    let g = c.get.result.now in
    let in_range : i < length gens = omega (arith, c.loop-index-test.true, c.len-index-end.ensures.length) in
    let own = read_words gens c.as_slice.result.now i c.index-as_slice-index.result (c.as_slice.ensures ∙ c.in_ok-words.ensures) in_range c.index-as_slice-index.is in
    let first : c.index-as_slice-index.result.first ≡ spec.first_label (generators_of gens) i = ap (λ w. w.first) own in
    let end : c.index-as_slice-index.result.end ≡ spec.first_label (generators_of gens) i + spec.endings (spec.bounds_of (parts_at gens i)) 0 = ap (λ w. w.end) own in
    let count : c.index-as_slice-index.result.end - c.index-as_slice-index.result.first ≡ spec.endings (spec.bounds_of (parts_at gens i)) 0 = omega (arith, first, end) in
    let own_count = count ∙ ap (λ ps. spec.endings (spec.bounds_of ps) 0) (parts_at-held gens i g c.get.ensures.found) in
    c.in_ok-push.ensures.items ∙ ap₂ (λ ks n. ks ++ (g.arity, n) ∷ []) c.loop-index.invariant own_count
    ∙ ap (λ x. map kind_in (take i gens) ++ kind_in x ∷ []) (sym (get_or_from_slice_get gens i g g c.get.ensures.found)) ∙ sym (map_more kind_in gens i g in_range)

pub of-requires : goal.of-requires
of-requires c =
    let gens = c.args.table.now in
    let all = c.as_slice-2.ensures.value ∙ c.loop-index.invariant ∙ ap (map kind_in) (take_all c.loop-index.index gens (omega (arith, c.loop-index-test.false, c.len-index-end.ensures.length))) in
    record { few = subst (λ ks. kinds.AreFew (kinds.labels_of_kinds ks)) (sym all) (few_labels gens c.len-index-end.ensures.table) }

pub returns : goal.returns
returns c =
    let gens = c.args.table.now in
    let all = c.as_slice-2.ensures.value ∙ c.loop-index.invariant ∙ ap (map kind_in) (take_all c.loop-index.index gens (omega (arith, c.loop-index-test.false, c.len-index-end.ensures.length))) in
    record {
      labels = IfOk-weaker c.of.result (λ labels. labels ≡ kinds.labels_of_kinds c.as_slice-2.result.now) (AreLabelsOf gens)
          (λ labels e. subst (AreLabelsOf gens) (sym (e ∙ ap kinds.labels_of_kinds all)) (are_labels gens c.len-index-end.ensures.table)) c.of.ensures.labels;
    }
