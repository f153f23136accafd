use Rattle.std.proofs.Common.{rules, Some, Ok, ◌≡◌, ◌<◌, ◌≤◌, refl, ap, sym, subst, ◌∙◌, [], length, true, false, arith}
use Rattle.lt_image.proofs.CountLaws.{newest-few}
use Rattle.lt_tables.proofs.NewestLaws.{newest-newest}
use Rattle.lt_tables.specs.Table.{newest}
use Rattle.std.specs.Prelude.{◌||◌}
use Rattle.lt_alloc.specs.Extents.{Reserves, is_free}
use Rattle.lt_format.specs.Trie.{all_distinct}
use Rattle.lt_format.specs.declared.header.Header.{Header}
use Rattle.lt_format.specs.Changes.{flush}
use Rattle.lt_format.specs.Snapshot.{after_commit, Manifest}
use Rattle.lt_terms.specs.Bytes.{is_in}
use Rattle.lt_store.specs.Flushing.{AreFree, flush_header, flushed_log}
use Rattle.lt_store.specs.Open.{StoreView}
use Rattle.lt_store.specs.View.{view_of}
use Rattle.lt_store.proofs.MomentLaws.{open-alike}
use Rattle.lt_store.proofs.NewestLaws.{newest-some}
use Rattle.lt_store.proofs.ReserveLaws.{reserved-len, reserved-free, reserved-distinct, reserved-below, flushed-kept, back-kept, kept-along, memory-few}
use Rattle.lt_store.proofs.LiveLaws.{unflushed}
use Rattle.lt_store.proofs.store.Store.flush.Goals as goal

pub tables_of-requires-clause-ranked : goal.tables_of-requires-clause-ranked
tables_of-requires-clause-ranked g c =
    let is = c.deref.ensures.value ∙ c.in_ok-items.ensures in
    ap newest is ∙ newest-newest c.args.self.now.memory ∙ sym is

pub tables_of-requires-clause-few : goal.tables_of-requires-clause-few
tables_of-requires-clause-few g c =
    let is : length c.deref.result.now ≡ length (newest c.args.self.now.memory) = ap length (c.deref.ensures.value ∙ c.in_ok-items.ensures) in
    let few = newest-few c.args.self.now.memory in
    let memory = memory-few _ _ c.args.self.now.memory _ _ _ _ (c.args.self.now.kept c.requires.up) in
    omega (arith, is, few, memory)

pub overflow_cast-len : goal.overflow_cast-len
overflow_cast-len g c =
    let is : length c.deref.result.now ≡ length (newest c.args.self.now.memory) = ap length (c.deref.ensures.value ∙ c.in_ok-items.ensures) in
    let few = newest-few c.args.self.now.memory in
    let memory = memory-few _ _ c.args.self.now.memory _ _ _ _ (c.args.self.now.kept c.requires.up) in
    let fewer = c.in_ok-tables.ensures.fewer in
    let len = c.len-2.ensures in
    let size = c.in_ok-tables.tables.ok.0 in
    omega (arith, is, few, memory, fewer, len, size)

pub flush_into-requires-clause-reserved : goal.flush_into-requires-clause-reserved
flush_into-requires-clause-reserved g c =
    let me = c.args.self.now in
    let kept = me.kept c.requires.up in
    let r = subst (λ xs. Reserves c.len-2.result me.extents c.take.new.self xs c.take.new.into.items) c.in_ok-numbers.ensures.items c.in_default-take.ensures.ok in
    let count : length c.take.new.into.items ≡ c.len-2.result = reserved-len me.manifest me.log me.memory me.extents c.take.new.self _ _ c.len-2.result me.work c.take.new.into.items kept r in
    let is : length c.deref.result.now ≡ length (newest me.memory) = ap length (c.deref.ensures.value ∙ c.in_ok-items.ensures) in
    let any = newest-some me.memory c.requires.some in
    let tables : 0 < length c.in_ok-tables.tables.items = c.in_ok-tables.ensures.some (omega (arith, is, any)) in
    let same : length c.deref-3.result.now ≡ length c.take.new.into.items = ap length c.deref-3.ensures.value in
    let len = c.len-2.ensures in
    let size = c.in_ok-tables.tables.ok.0 in
    record {
      kept = record { taken = me.extents; kept = kept };
      idle = c.requires.idle;
      some = omega (arith, count, tables, same, len, size);
      distinct = subst (λ xs. all_distinct xs ≡ true) (sym c.deref-3.ensures.value) (reserved-distinct me.manifest me.log me.memory me.extents c.take.new.self _ _ c.len-2.result me.work c.take.new.into.items kept r);
      free = subst (AreFree me.manifest me.work) (sym c.deref-3.ensures.value) (reserved-free me.manifest me.log me.memory me.extents c.take.new.self _ _ c.len-2.result me.work c.take.new.into.items kept r);
    }

pub give_back-requires-clause-distinct : goal.give_back-requires-clause-distinct
give_back-requires-clause-distinct g c =
    let me = c.args.self.now in
    let kept = me.kept c.requires.up in
    let r = subst (λ xs. Reserves c.len-2.result me.extents c.take.new.self xs c.take.new.into.items) c.in_ok-numbers.ensures.items c.in_default-take.ensures.ok in
    subst (λ xs. all_distinct xs ≡ true) (sym c.deref-in-Err-NoMemory.ensures.value) (reserved-distinct me.manifest me.log me.memory me.extents c.take.new.self _ _ c.len-2.result me.work c.take.new.into.items kept r)

pub give_back-requires-clause-below : goal.give_back-requires-clause-below
give_back-requires-clause-below g c = λ x there.
    let me = c.args.self.now in
    let kept = me.kept c.requires.up in
    let r = subst (λ xs. Reserves c.len-2.result me.extents c.take.new.self xs c.take.new.into.items) c.in_ok-numbers.ensures.items c.in_default-take.ensures.ok in
    let below = reserved-below me.manifest me.log me.memory me.extents c.take.new.self _ _ c.len-2.result me.work c.take.new.into.items kept r x (subst (λ xs. is_in x xs ≡ true) c.deref-in-Err-NoMemory.ensures.value there) in
    let same : length c.flush_into.new.self.extents ≡ length c.take.new.self = ap length c.flush_into.ensures.installs.stays_down.same_extents in
    omega (arith, below, same)

pub returns-in-Err-NoMemory-clause-idle : goal.returns-in-Err-NoMemory-clause-idle
returns-in-Err-NoMemory-clause-idle g c = λ none. c.in-Err-NoMemory.ensures.idle (search rules)

pub invariant_of-self-in-Ok : goal.invariant_of-self-in-Ok
invariant_of-self-in-Ok g c =
    let me = c.args.self.now in
    let kept = me.kept c.requires.up in
    let r = subst (λ xs. Reserves c.len-2.result me.extents c.take.new.self xs c.take.new.into.items) c.in_ok-numbers.ensures.items c.in_default-take.ensures.ok in
    let new = c.flush_into.new.self in
    let v : StoreView = view_of me in
    let count : length c.take.new.into.items ≡ c.len-2.result = reserved-len me.manifest me.log me.memory me.extents c.take.new.self _ _ c.len-2.result me.work c.take.new.into.items kept r in
    let is : length c.deref.result.now ≡ length (newest me.memory) = ap length (c.deref.ensures.value ∙ c.in_ok-items.ensures) in
    let any = newest-some me.memory c.requires.some in
    let tables : 0 < length c.in_ok-tables.tables.items = c.in_ok-tables.ensures.some (omega (arith, is, any)) in
    let len = c.len-2.ensures in
    let size = c.in_ok-tables.tables.ok.0 in
    let some : 1 ≤ length c.take.new.into.items = omega (arith, count, tables, len, size) in
    let filled : length new.filters ≡ length me.filters = c.in-Ok.ensures.installs.stays_down.room in
    let header : Header = flush_header v in
    let flushed_is = c.in-Ok.ensures.installs.committed.is in
    let manifest = c.in-Ok.ensures.installs.committed.manifest ∙ ap (λ xs. after_commit me.manifest.manifest (flush xs) header) c.deref-3.ensures.value in
    let k = flushed-kept me.manifest new.manifest me.log me.memory me.extents c.take.new.self _ _ c.len-2.result me.work c.take.new.into.items header kept r some c.in-Ok.ensures.installs.committed.stands c.in-Ok.ensures.installs.stays_down.geometry manifest refl refl refl in
    record {
      kept = λ up. kept-along new.manifest (flushed_log me.log header) new.log [] new.memory c.take.new.self new.extents _ _ _ _ _ _ (ap (λ (w : StoreView). w.log) flushed_is) (ap (λ (w : StoreView). w.memory) flushed_is) c.in-Ok.ensures.installs.stays_down.same_extents filled c.in-Ok.ensures.installs.stays_down.same_writes (ap (λ (w : StoreView). w.work) flushed_is) k;
      refused_is = λ up short is. absurd (c.in_default.not-Some short (sym c.flush_into.ensures.installs.refused ∙ is));
    }

pub invariant_of-self-in-Err-NoMemory : goal.invariant_of-self-in-Err-NoMemory
invariant_of-self-in-Err-NoMemory g c =
    let me = c.args.self.now in
    let kept = me.kept c.requires.up in
    let r = subst (λ xs. Reserves c.len-2.result me.extents c.take.new.self xs c.take.new.into.items) c.in_ok-numbers.ensures.items c.in_default-take.ensures.ok in
    let new = c.flush_into.new.self in
    let k' = c.in-Err-NoMemory.ensures.kept (search rules) me.extents kept in
    let numbers : c.deref-in-Err-NoMemory.result.now ≡ c.take.new.into.items = c.deref-in-Err-NoMemory.ensures.value in
    let taken : new.extents ≡ c.take.new.self = c.in-Err-NoMemory.ensures.installs.stays_down.same_extents in
    let size : length c.give_back.new.extents ≡ length c.take.new.self = c.give_back.ensures.extents ∙ ap length taken in
    record {
      kept = λ up.
          back-kept me.manifest new.manifest me.log new.log me.memory new.memory me.extents c.take.new.self c.give_back.new.extents _ (length new.filters) me.writes new.writes c.len-2.result me.work new.work c.take.new.into.items kept k' r size
          (λ x small. subst (λ ns. is_free c.give_back.new.extents x ≡ (is_free c.take.new.self x || is_in x ns)) numbers (subst (λ e. is_free c.give_back.new.extents x ≡ (is_free e x || is_in x c.deref-in-Err-NoMemory.result.now)) taken (c.give_back.ensures.free x (subst (λ e. x < length e) (sym taken) small))));
      refused_is = λ up short is. absurd (c.in_default.not-Some short (sym c.flush_into.ensures.installs.refused ∙ is));
    }

pub returns-in-Ok-clause-flushed : goal.returns-in-Ok-clause-flushed
returns-in-Ok-clause-flushed g c = λ is d o.
    let flushed_is = c.in-Ok.ensures.installs.committed.is in
    record {
      numbers = c.deref-3.result.now;
      tables = c.in-Ok.ensures.tables d (open-alike (view_of c.args.self.now) d (g.D.Device.state c.args.device.now) false c.take.new.self o);
      manifest = c.in-Ok.ensures.installs.committed.manifest;
      log = ap (λ (w : StoreView). w.log) flushed_is;
      memory = ap (λ (w : StoreView). w.memory) flushed_is;
      writes = c.in-Ok.ensures.installs.stays_down.same_writes;
      work = ap (λ (w : StoreView). w.work) flushed_is;
    }

-- ---- the store lives on

pub returns-in-Some-clause-lives : goal.returns-in-Some-clause-lives
returns-in-Some-clause-lives g c = unflushed g.D.Device c.args.self.now _ _ c.args.device.now refl c.requires.up (search rules)

pub returns-in_err-items-clause-lives : goal.returns-in_err-items-clause-lives
returns-in_err-items-clause-lives g c = unflushed g.D.Device c.args.self.now _ _ c.args.device.now refl c.requires.up (search rules)

pub returns-in_err-tables-clause-lives : goal.returns-in_err-tables-clause-lives
returns-in_err-tables-clause-lives g c = unflushed g.D.Device c.args.self.now _ _ c.args.device.now refl c.requires.up (search rules)

pub returns-in_err-numbers-clause-lives : goal.returns-in_err-numbers-clause-lives
returns-in_err-numbers-clause-lives g c = unflushed g.D.Device c.args.self.now _ _ c.args.device.now refl c.requires.up (search rules)

pub returns-in-Err-clause-lives : goal.returns-in-Err-clause-lives
returns-in-Err-clause-lives g c =
    let none = unflushed g.D.Device c.args.self.now c.args.self.now (Ok (Some c.in-Err.short)) c.args.device.now refl c.requires.up (search rules) in
    record {
      stays = none.stays;
      opened = λ on d o. open-alike (view_of c.args.self.now) d (g.D.Device.state c.args.device.now) c.args.self.now.is_up c.take.new.self o;
      up = none.up;
      writes = refl;
      regions = λ on. record { geometry = refl; extents = refl };
      job = λ on. refl;
      calls = none.calls;
    }

pub returns-in-Ok-clause-lives : goal.returns-in-Ok-clause-lives
returns-in-Ok-clause-lives g c =
    let v : StoreView = view_of c.args.self.now in
    record {
      stays = λ d o. c.in-Ok.ensures.stays d (open-alike v d (g.D.Device.state c.args.device.now) false c.take.new.self o);
      opened = λ ok d o.
          open-alike (view_of c.flush_into.new.self) d (g.D.Device.state c.flush_into.new.device) true c.flush_into.new.self.extents
          (c.in-Ok.ensures.opened d (open-alike v d (g.D.Device.state c.args.device.now) false c.take.new.self o));
      up = search rules;
      writes = c.in-Ok.ensures.installs.stays_down.same_writes;
      regions = λ up. record { geometry = c.in-Ok.ensures.installs.stays_down.geometry; extents = ap (λ (m : Manifest). m.header.extents) c.in-Ok.ensures.installs.committed.manifest };
      job = λ up. c.in-Ok.ensures.installs.stays_down.same_job;
      calls = record {
        size = c.flush_into.ensures.installs.calls.size;
        count = c.flush_into.ensures.installs.calls.count;
        later = c.flush_into.ensures.installs.calls.later;
        cause = λ failed. absurd (let at = failed in cc);
      };
    }

pub returns-in-Err-NoMemory-clause-lives : goal.returns-in-Err-NoMemory-clause-lives
returns-in-Err-NoMemory-clause-lives g c =
    let v : StoreView = view_of c.args.self.now in
    record {
      stays = λ d o. c.flush_into.ensures.stays d (open-alike v d (g.D.Device.state c.args.device.now) false c.take.new.self o);
      opened = λ none d o.
          open-alike (view_of c.flush_into.new.self) d (g.D.Device.state c.flush_into.new.device) true c.give_back.new.extents
          (c.in-Err-NoMemory.ensures.opened_again (search rules) d (open-alike v d (g.D.Device.state c.args.device.now) false c.take.new.self o));
      up = search rules;
      writes = search rules;
      regions = search rules;
      job = search rules;
      calls = search rules;
    }

pub returns-clause-lives : goal.returns-clause-lives
returns-clause-lives g c =
    let v : StoreView = view_of c.args.self.now in
    record {
      stays = λ d o. c.flush_into.ensures.stays d (open-alike v d (g.D.Device.state c.args.device.now) false c.take.new.self o);
      opened = search rules;
      up = search rules;
      writes = search rules;
      regions = search rules;
      job = search rules;
      calls = search rules;
    }
