use Rattle.std.proofs.Common.{◌++◌, ◌∙◌, ap, refl, sym, subst, subst₂, append-nil, Some, None, IsSome, string_cmp}
use Rattle.std.specs.Map.Iter.{deref}
use Rattle.std.proofs.lemmas.Map.Views.{All-turn}
use Rattle.std.specs.BTreeMap.{keys, get}
use Rattle.pm_host.specs.World.{ListsRight}
use Rattle.pm_memory.specs.Folders.{IsPartIn}
use Rattle.pm_memory.proofs.Listing.{gathers, passes, refused, lists_right, parts_in}
use Rattle.pm_memory.proofs.tree.Tree.names.Goals as goal

pub loop-name-preserved-in_default-add_name : goal.loop-name-preserved-in_default-add_name
loop-name-preserved-in_default-add_name c =
    ap (λ names. names ++ parts_in c.args.folder.now c.next.new.self) c.in_default-add_name.ensures.ok
    ∙ gathers c.args.folder.now c.in-Some.name.now c.next.new.self c.loop-name.names.items (parts_in c.args.folder.now (keys c.args.self.now.nodes)) c.in-Some-part_in.part.now
    (subst₂ (λ f n. IsPartIn f n (Some c.in-Some-part_in.part.now)) c.as_bytes.ensures.value c.as_bytes-in-loop-name.ensures.value c.in-Some-part_in.ensures)
    (rw c.in-Some.ensures.steps at c.loop-name.invariant)

pub returns-in-Err : goal.returns-in-Err
returns-in-Err c = record {
  ok = tt;
  err =
      refused c.args.self.now.nodes c.args.folder.now c.in-Some.name.now c.in-Some-part_in.part.now
      (subst₂ (λ f n. IsPartIn f n (Some c.in-Some-part_in.part.now)) c.as_bytes.ensures.value c.as_bytes-in-loop-name.ensures.value c.in-Some-part_in.ensures)
      (All-turn deref (λ k. IsSome (get string_cmp c.args.self.now.nodes k)) _ _ _ _ _ _ _ c.keys-name-items.ensures.found (c.into_iter-name-iterator.ensures.into_iter_gives ∙ c.keys-name-items.ensures.rest)
      c.loop-name.yielded_by c.in-Some.is c.next.ensures.steps)
      c.in-Err.refused c.in-Err.ensures.err;
}

pub loop-name-preserved : goal.loop-name-preserved
loop-name-preserved c =
    passes c.args.folder.now c.in-Some.name.now c.next.new.self c.loop-name.names.items (parts_in c.args.folder.now (keys c.args.self.now.nodes))
    (subst₂ (λ f n. IsPartIn f n None) c.as_bytes.ensures.value c.as_bytes-in-loop-name.ensures.value c.in_default-part_in.ensures)
    (rw c.in-Some.ensures.steps at c.loop-name.invariant)

pub returns-clause-ok : goal.returns-clause-ok
returns-clause-ok c = record {
  right =
      subst (ListsRight _ c.args.folder.now) (sym (c.from_vec.ensures ∙ sym (append-nil c.loop-name.names.items) ∙ (rw c.in-None.ensures.steps.0 at c.loop-name.invariant)))
      (lists_right c.args.self.now.nodes c.args.folder.now c.keys-name-items.ensures.ordered);
  made = refl;
}
