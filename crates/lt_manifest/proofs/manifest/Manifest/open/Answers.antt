use Rattle.std.proofs.Common.{◌≡◌, ℕ, ◌+◌, ◌/◌, ◌<◌, ◌≤◌, ◌∙◌, refl, sym, ap, subst, List, length, Err, arith}
use Rattle.std.specs.Prelude.{slice_index, take}
use Rattle.lt_device.specs.State.{State}
use Rattle.lt_format.specs.declared.geometry.Geometry.{Geometry}
use Rattle.lt_format.specs.Layout.{area_block}
use Rattle.lt_format.specs.Snapshot.{IsManifest}
use Rattle.lt_format.proofs.ReadLaws.{front_ok}
use Rattle.lt_layout.specs.declared.fault.OpenFault.TheVariants.{Damaged}
use Rattle.lt_manifest.specs.Area.{AreBytesFrom, front_of}
use Rattle.lt_manifest.proofs.FaultLaws.{read-ok, read-err}
use Rattle.lt_manifest.proofs.ManifestLaws.{held_from, manifest_in-ok, manifest_in-fault}
use Rattle.lt_manifest.proofs.PlaceLaws.{after_front-within}
use Rattle.lt_manifest.proofs.ReadingLaws.{few_extents, header-read, snapshot_in-front_fault, snapshot_in-ok, snapshot_in-fault}
use Rattle.lt_terms.specs.Bytes.{block_at}
use Rattle.lt_manifest.proofs.manifest.Manifest.open.Goals as goal

pub returns-in_default-clause-damaged : goal.returns-in_default-clause-damaged
returns-in_default-clause-damaged g c = λ b is image told.
    let geometry : Geometry = c.args.geometry.now in
    let area : ℕ = c.selected-area.result in
    let here = ap (λ (s : State). s.shown) c.read.ensures.state ∙ told in
    let there = ap (λ (s : State). s.shown) (c.read-2.ensures.state ∙ c.read.ensures.state) ∙ told in
    let size = (c.blocks-2.ensures.fit.shown image there).size ∙ sym c.blocks-2.ensures.value in
    let page = c.in_ok-read-2.ensures.content image here ∙ ap (block_at image) c.area-first.ensures in
    let same = header-read geometry c.blocks-2.result image area c.read-2.new.into c.front_part-header.result.now page (c.front_part-header.ensures.bytes ∙ ap (λ (p : List ℕ). take 40 p) c.bytes.ensures.bytes) in
    let at : c.area-first.result ≡ b = cc (is) in
    let small : c.in_default.field-0 < 40 = c.in_default.ensures.fault_place in
    manifest_in-fault geometry image _ area b (c.in_ok-read.ensures.content image told) c.selected-area.ensures
    (snapshot_in-front_fault geometry image area c.blocks-2.result b size (c.in_default.field-0, same ∙ c.in_default.ensures.read, omega (arith, at, c.area-first.ensures, small)))

pub read_bytes-requires-clause-few : goal.read_bytes-requires-clause-few
read_bytes-requires-clause-few g c =
    let front = front_ok c.args.geometry.now c.blocks-2.result (slice_index c.front_part-header.result.now) (front_of c.in-Ok.front) c.in-Ok.ensures.read in
    omega (arith, front.short)

pub read_trie-requires-clause-extents : goal.read_trie-requires-clause-extents
read_trie-requires-clause-extents g c =
    let front = front_ok c.args.geometry.now c.blocks-2.result (slice_index c.front_part-header.result.now) (front_of c.in-Ok.front) c.in-Ok.ensures.read in
    (few_extents c.args.geometry.now c.blocks-2.result c.in-Ok.front.header.extents front.extents).1

pub invariant_of-result : goal.invariant_of-result
invariant_of-result g c =
    let front = front_ok c.args.geometry.now c.blocks-2.result (slice_index c.front_part-header.result.now) (front_of c.in-Ok.front) c.in-Ok.ensures.read in
    held_from c.args.geometry.now c.blocks-2.result c.selected-area.result c.in-Ok.front.header c.in-Ok-read_trie.trie c.requires.valid (omega (arith, c.selected-area.ensures)) c.in-Ok-read_trie.ensures.levels
    (record { area = front.area; extents = front.extents; writes = c.in-Ok.ensures.writes; trie = c.in-Ok-read_trie.ensures.trie })

pub returns-in-Ok-read_trie-clause-read : goal.returns-in-Ok-read_trie-clause-read
returns-in-Ok-read_trie-clause-read g c = λ image told.
    let geometry : Geometry = c.args.geometry.now in
    let area : ℕ = c.selected-area.result in
    let here = ap (λ (s : State). s.shown) c.read.ensures.state ∙ told in
    let there = ap (λ (s : State). s.shown) (c.read-2.ensures.state ∙ c.read.ensures.state) ∙ told in
    let size = (c.blocks-2.ensures.fit.shown image there).size ∙ sym c.blocks-2.ensures.value in
    let page = c.in_ok-read-2.ensures.content image here ∙ ap (block_at image) c.area-first.ensures in
    let same = header-read geometry c.blocks-2.result image area c.read-2.new.into c.front_part-header.result.now page (c.front_part-header.ensures.bytes ∙ ap (λ (p : List ℕ). take 40 p) c.bytes.ensures.bytes) in
    let header = same ∙ c.in-Ok.ensures.read in
    let read = c.in_ok-bytes.ensures.read image there (c.in_ok-read-2.ensures.content image here) in
    let are = subst (AreBytesFrom image (area_block area)) (sym c.deref.ensures.value) (subst (λ k. AreBytesFrom image k c.in_ok-bytes.bytes.items) c.area-first.ensures read) in
    let len = ap length c.deref.ensures.value ∙ c.in_ok-bytes.ensures.count in
    manifest_in-ok geometry image _ area _ (c.in_ok-read.ensures.content image told) c.selected-area.ensures
    (snapshot_in-ok geometry image area c.blocks-2.result (front_of c.in-Ok.front) c.deref.result.now _ size header are len (read-ok _ _ _ _ c.read_trie.ensures.read c.in-Ok-read_trie.is))

pub returns-in-Ok-read_trie-clause-stands : goal.returns-in-Ok-read_trie-clause-stands
returns-in-Ok-read_trie-clause-stands g c =
    let front = front_ok c.args.geometry.now c.blocks-2.result (slice_index c.front_part-header.result.now) (front_of c.in-Ok.front) c.in-Ok.ensures.read in
    record {
      geometry = refl;
      area = omega (arith, c.selected-area.ensures);
      manifest = subst (λ n. IsManifest c.args.geometry.now n (record { header = c.in-Ok.front.header; trie = c.in-Ok-read_trie.trie.nodes })) (c.blocks-2.ensures.value ∙ c.read-2.ensures.size ∙ c.read.ensures.size)
          (record { area = front.area; extents = front.extents; writes = c.in-Ok.ensures.writes; trie = c.in-Ok-read_trie.ensures.trie });
    }

pub returns-clause-damaged : goal.returns-clause-damaged
returns-clause-damaged g c = λ b is image told.
    let geometry : Geometry = c.args.geometry.now in
    let area : ℕ = c.selected-area.result in
    let here = ap (λ (s : State). s.shown) c.read.ensures.state ∙ told in
    let there = ap (λ (s : State). s.shown) (c.read-2.ensures.state ∙ c.read.ensures.state) ∙ told in
    let size = (c.blocks-2.ensures.fit.shown image there).size ∙ sym c.blocks-2.ensures.value in
    let page = c.in_ok-read-2.ensures.content image here ∙ ap (block_at image) c.area-first.ensures in
    let same = header-read geometry c.blocks-2.result image area c.read-2.new.into c.front_part-header.result.now page (c.front_part-header.ensures.bytes ∙ ap (λ (p : List ℕ). take 40 p) c.bytes.ensures.bytes) in
    let header = same ∙ c.in-Ok.ensures.read in
    let read = c.in_ok-bytes.ensures.read image there (c.in_ok-read-2.ensures.content image here) in
    let are = subst (AreBytesFrom image (area_block area)) (sym c.deref.ensures.value) (subst (λ k. AreBytesFrom image k c.in_ok-bytes.bytes.items) c.area-first.ensures read) in
    let len = ap length c.deref.ensures.value ∙ c.in_ok-bytes.ensures.count in
    let damaged : c.fault_from.result ≡ Damaged b = cc (is) in
    let fault = c.fault_from.ensures.damaged b damaged in
    let behind = read-err _ _ _ fault.0 c.read_trie.ensures.read (c.in-Err.is ∙ ap Err fault.1) in
    let at : b ≡ area_block area + fault.0 / 4096 = omega (arith, fault.2, c.area-first.ensures) in
    manifest_in-fault geometry image _ area b (c.in_ok-read.ensures.content image told) c.selected-area.ensures
    (snapshot_in-fault geometry image area c.blocks-2.result (front_of c.in-Ok.front) c.deref.result.now fault.0 b size header are len behind at)

pub returns-clause-damaged_block : goal.returns-clause-damaged_block
returns-clause-damaged_block g c = λ b is.
    let front = front_ok c.args.geometry.now c.blocks-2.result (slice_index c.front_part-header.result.now) (front_of c.in-Ok.front) c.in-Ok.ensures.read in
    let damaged : c.fault_from.result ≡ Damaged b = cc (is) in
    let fault = c.fault_from.ensures.damaged b damaged in
    let behind = read-err _ _ _ fault.0 c.read_trie.ensures.read (c.in-Err.is ∙ ap Err fault.1) in
    let place : fault.0 ≤ c.in-Ok.front.total = after_front-within c.args.geometry.now (slice_index c.deref.result.now) (front_of c.in-Ok.front) fault.0 c.in-Ok.ensures.least behind in
    let small : fault.0 ≤ 1245224 = omega (arith, place, front.short) in
    record { area = c.selected-area.result; area_is = omega (arith, c.selected-area.ensures); first = omega (arith, fault.2, c.area-first.ensures); last = omega (arith, fault.2, c.area-first.ensures, small) }
