-- The laws of free trees and normal forms, proved.
use Rattle.std.proofs.Common.{inl, refl}
use Rattle.shuffle_normal_forms.specs.Laws.{FreeTreesListed, FreeTreesIndependent, FreeTreesSpan, FreeTreesLeadNone, OneNormalForm}
use Rattle.shuffle_normal_forms.proofs.Listing.{free_of_mem, mem_of_free, distinct_free}
use Rattle.shuffle_normal_forms.proofs.Independent.{zero_in_span}
use Rattle.shuffle_normal_forms.proofs.Spanning.{tree_form, any_form}
use Rattle.shuffle_normal_forms.proofs.Leading.{free_of_none, none_of_free}
use Rattle.shuffle_normal_forms.proofs.NormalForms.{same_form, in_span, one_form as one_form_only}

pub all_listed : FreeTreesListed
all_listed labels s are monic n =
    (distinct_free labels s are monic n, λ t. (free_of_mem labels s are monic n t, mem_of_free labels s are monic n t))

pub independent : FreeTreesIndependent
independent labels s are order monic N n reduce le e h m = zero_in_span labels s are order monic N n reduce le e h m

pub spanning : FreeTreesSpan
spanning labels s are order monic n = (
  λ t h. let f = tree_form labels s are order monic n t h in (f.by, f.normal, f.within t (inl refl, tt)),
  λ e h. let f = any_form labels s are order monic n e h in (f.by, f.normal, f.within),
)

pub lead_none : FreeTreesLeadNone
lead_none labels s are order monic = (
  λ N n reduce le t h f. none_of_free labels s are order monic N n reduce le t h f,
  λ positive n t h none. free_of_none s order monic n positive t h none,
)

pub one_form : OneNormalForm
one_form labels s are order monic N n reduce le = (
  λ e h. let f = any_form labels s are order monic n e h in
      (f.by, f.normal, λ g k. one_form_only labels s are order monic N n reduce le e f.by g f.normal k),
  λ d e f g hf hg. (same_form labels s are order monic N n reduce le d e f g hf hg, in_span s n d e f g hf hg),
)
