use Rattle.std.proofs.Common.{◌<◌, ◌∙◌, ℕ, List, length, ap, sym, subst}
use Rattle.modular_sums.specs.Lists.{Mem}
use Rattle.normal_listing.specs.Choices.{choices}
use Rattle.normal_listing.specs.Vertices.{generator_of, word_of, IsShuffleLead, IsVertex}
use Rattle.normal_listing.specs.declared.labels.Label.{Label}
use Rattle.normal_listing.specs.declared.parts.Part.{Part}
use Rattle.log_rows.specs.TwoLeaves.{both_parts, each_of}
use Rattle.log_rows.proofs.FoundLeaves.{all_entries, sizes, tables_of, vertices_of}
use Rattle.log_rows.proofs.vertices.found.Goals as goal

pub find_vertices-requires-clause-tables : goal.find_vertices-requires-clause-tables
find_vertices-requires-clause-tables c =
    let h = c.requires.leaves in
    tables_of c.args.store.now h.id h.corolla h.is c.args.labels.now (record { ids = c.as_slice.result; words = c.as_slice-2.result; parted = c.as_slice-3.result })
    (c.as_slice.ensures.value ∙ h.leaves.ids) (c.as_slice-2.ensures.value ∙ h.leaves.words) (c.as_slice-3.ensures.value ∙ h.leaves.parted)

pub find_vertices-requires-clause-generators : goal.find_vertices-requires-clause-generators
find_vertices-requires-clause-generators c = λ l b.
    let e = c.requires.labels.2 in
    subst (λ (ls : List Label). (1 < length (word_of ls l)) × (generator_of ls l < 22)) (sym e) (sizes c.requires.labels.0 c.requires.labels.1 l (subst (λ (ls : List Label). l < length ls) e b))

pub find_vertices-requires-clause-held : goal.find_vertices-requires-clause-held
find_vertices-requires-clause-held c = all_entries (IsShuffleLead c.args.store.now) c.args.leads.now c.requires.leads

pub find_vertices-requires-clause-vertices : goal.find_vertices-requires-clause-vertices
find_vertices-requires-clause-vertices c = λ l ids b m.
    let h = c.requires.leaves in
    let e = c.requires.labels.2 in
    let all = each_of h.corolla.first h.corolla.second in
    let labels = c.args.labels.now in
    let by_ids = subst (λ (x : List (List ℕ)). Mem ids (choices x c.as_slice-3.result.now (length (word_of labels l)) 3)) (c.as_slice.ensures.value ∙ h.leaves.ids) m in
    let by_parts = subst (λ (x : List (List Part)). Mem ids (choices all x (length (word_of labels l)) 3)) (c.as_slice-3.ensures.value ∙ h.leaves.parted) by_ids in
    let chosen = subst (λ (k : ℕ). Mem ids (choices all both_parts k 3)) (ap (λ (ls : List Label). length (word_of ls l)) e) by_parts in
    subst (λ (ls : List Label). IsVertex c.args.store.now ls l ids) (sym e)
    (vertices_of c.args.store.now h.id h.corolla h.is h.store h.within c.requires.labels.0 l ids (subst (λ (ls : List Label). l < length ls) e b) chosen)
