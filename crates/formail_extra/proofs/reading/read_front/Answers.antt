use Rattle.std.proofs.Common.{◌≤◌, ◌+◌, arith, length, take, drop, length-take, length-drop, length-append, ap, refl}
use Rattle.formail_extra.specs.Reading.{CacheOn}
use Rattle.formail_extra.specs.declared.reading.CacheRead.TheVariants.{Front}
use Rattle.formail_extra.proofs.ReadLemmas.{looked_at, read_at, goes_on, still_bounded, comes_to_end, comes_to_fault}
use Rattle.formail_extra.proofs.reading.read_front.Goals as goal

pub returns-in-Folder-clause-reads : goal.returns-in-Folder-clause-reads
returns-in-Folder-clause-reads g c = record { at = _; reads = looked_at _ _ _ _ _ c.as_str.ensures.same c.in-Folder.ensures; done = refl }

pub returns-in-Nothing-clause-reads : goal.returns-in-Nothing-clause-reads
returns-in-Nothing-clause-reads g c = record { at = _; reads = looked_at _ _ _ _ _ c.as_str.ensures.same c.in-Nothing.ensures; done = refl }

pub returns-in-Failed-clause-reads : goal.returns-in-Failed-clause-reads
returns-in-Failed-clause-reads g c = record { at = _; reads = looked_at _ _ _ _ _ c.as_str.ensures.same c.in-Failed.ensures; done = refl }

pub loop-room-preserved : goal.loop-room-preserved
loop-room-preserved g c =
    let some : 1 ≤ length (take c.min-most.result c.loop-room.room) = omega (arith, c.min-most.ensures, c.len-in-loop-room.ensures, c.len.ensures, length-take c.min-most.result c.loop-room.room) in
    let fits : length c.loop-room.bytes.items + length (take c.min-most.result c.loop-room.room) ≤ 2097152 = omega (arith, c.min-most.ensures, c.len-in-loop-room.ensures, c.len.ensures, length-take c.min-most.result c.loop-room.room) in
    let r = read_at _ _ _ _ _ _ _ _ _ c.as_str-in-loop-room.ensures.same c.loop-room.invariant.reads c.read_more.ensures.makes some fits in
    let m = rw c.in-More.is at c.read_more.ensures.makes.brings in
    record {
      reads = goes_on _ _ _ _ _ _ r m;
      sized = omega (arith, c.read_more.auto.room, length-append c.read_more.new.room (drop c.min-most.result c.loop-room.room), length-take c.min-most.result c.loop-room.room, length-drop c.min-most.result c.loop-room.room, c.min-most.ensures);
      bounded = still_bounded _ _ _ _ _ _ _ c.read_more.ensures.makes.makes m fits;
      space = omega (arith, c.loop-room.invariant.space, c.read_more.ensures.space);
    }

pub returns-in-End-clause-reads : goal.returns-in-End-clause-reads
returns-in-End-clause-reads g c =
    let some : 1 ≤ length (take c.min-most.result c.loop-room.room) = omega (arith, c.min-most.ensures, c.len-in-loop-room.ensures, c.len.ensures, length-take c.min-most.result c.loop-room.room) in
    let fits : length c.loop-room.bytes.items + length (take c.min-most.result c.loop-room.room) ≤ 2097152 = omega (arith, c.min-most.ensures, c.len-in-loop-room.ensures, c.len.ensures, length-take c.min-most.result c.loop-room.room) in
    let r = read_at _ _ _ _ _ _ _ _ _ c.as_str-in-loop-room.ensures.same c.loop-room.invariant.reads c.read_more.ensures.makes some fits in
    rw c.from_vec.ensures (comes_to_end _ _ _ _ _ _ r (rw c.in-End.is at c.read_more.ensures.makes.brings))

pub returns-in-Failed-read_more-clause-reads : goal.returns-in-Failed-read_more-clause-reads
returns-in-Failed-read_more-clause-reads g c =
    let some : 1 ≤ length (take c.min-most.result c.loop-room.room) = omega (arith, c.min-most.ensures, c.len-in-loop-room.ensures, c.len.ensures, length-take c.min-most.result c.loop-room.room) in
    let fits : length c.loop-room.bytes.items + length (take c.min-most.result c.loop-room.room) ≤ 2097152 = omega (arith, c.min-most.ensures, c.len-in-loop-room.ensures, c.len.ensures, length-take c.min-most.result c.loop-room.room) in
    let r = read_at _ _ _ _ _ _ _ _ _ c.as_str-in-loop-room.ensures.same c.loop-room.invariant.reads c.read_more.ensures.makes some fits in
    comes_to_fault _ _ _ _ _ _ r (rw c.in-Failed-read_more.is at c.read_more.ensures.makes.brings)

pub returns-clause-reads : goal.returns-clause-reads
returns-clause-reads g c = record {
  at = CacheOn c.loop-room.bytes.items;
  reads = c.loop-room.invariant.reads;
  done = (omega (arith, c.loop-room-test.false, c.len.ensures, c.loop-room.invariant.bounded), ap Front c.from_vec-2.ensures);
}
