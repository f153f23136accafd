-- The images of a commit: content, sync, gate, sync.
use Rattle.std.proofs.Common.{◌≡◌, inl, ℕ, ◌<◌, ap, subst, ◌∙◌, arith, true, List, [], ◌∷◌, ◌++◌, length}
use Rattle.lt_terms.specs.Bytes.{Image, block_at}
use Rattle.lt_terms.specs.Items.{Item}
use Rattle.lt_device.specs.State.{State, IsFit, Wrote, written, synced}
use Rattle.lt_device.specs.Moments.{MayLeave, Leaves}
use Rattle.lt_device.proofs.Runs.{begins, goes_on, writes, weakens}
use Rattle.lt_device.proofs.Steps.{write_near, sync_only, sync_was, written_shown}
use Rattle.lt_device.proofs.Fits.{wrote_fit}
use Rattle.lt_format.specs.declared.geometry.Geometry.{Geometry}
use Rattle.lt_format.specs.Layout.{is_open, log_gate, log_content, gate_page}
use Rattle.lt_redo.specs.Slots.{HasLog, HasLogOrLonger, HoldsPages, MayFollow}
use Rattle.lt_redo.proofs.LogLaws.{has_log-content, has_log-gate, has_log-open}

-- a write of a block under another name
pub wrote_at : {n k l : ℕ} {s t : State} → k ≡ l → Wrote n k s t → Wrote n l s t
wrote_at {n} {k} {l} {s} {t} same wrote = subst (λ i. Wrote n i s t) same wrote

pub written_at : {k l : ℕ} (s t : State) (page : List ℕ) → k ≡ l → t ≡ written s k page → t ≡ written s l page
written_at s t page same is = subst (λ i. t ≡ written s i page) same is

-- each image that a crash may leave now has these groups
abbrev pub Rests : Geometry → ℕ → ℕ → List (List Item) → State → Type 0
Rests g b from groups s = (left : Image) → MayLeave s left → HasLog g b from groups left

module _ (g : Geometry) (b from : ℕ) (groups : List (List Item)) (group : List Item) (content : List ℕ) (follows : MayFollow g from groups group content) where
  -- after the content was written, whatever that answered
  pub content_written : {n : ℕ} {s t : State} → Wrote n (log_content g b (length groups)) s t → Rests g b from groups s → Leaves (HasLog g b from groups) s t
  content_written {n} {s} {t} wrote rests = writes wrote (begins s rests) (has_log-content g b from groups follows.room)

  -- no longer
  pub not_longer : {s t : State} → Leaves (HasLog g b from groups) s t → Leaves (HasLogOrLonger g b from groups group) s t
  not_longer run = weakens run (λ left has. record { either = inl has })

  -- the content is sure
  content_sure : {n : ℕ} {s t u : State} → log_content g b (length groups) < n → IsFit n s → t ≡ written s (log_content g b (length groups)) content → IsFit n t → u ≡ synced t
      → (left : Image) → MayLeave u left → block_at left (log_content g b (length groups)) ≡ content
  content_sure {n} {s} {t} {u} below fit is fit_t made left may = written_shown n _ s t content fit below is left (sync_only n t fit_t left (subst (λ (v : State). MayLeave v left) made may))

  -- after the gate was written, whatever that answered
  pub gate_written : {n m : ℕ} {s t u v : State} → log_content g b (length groups) < n → Wrote n (log_content g b (length groups)) s t → t ≡ written s (log_content g b (length groups)) content → u ≡ synced t
      → Wrote m (log_gate g b (length groups)) u v → Leaves (HasLog g b from groups) s u → Leaves (HasLogOrLonger g b from groups group) s v
  gate_written {n} {m} {s} {t} {u} {v} below wrote is made gate run =
      goes_on gate (not_longer run) (λ image left may same.
      has_log-gate g b from groups follows.room image left group content follows (content_sure below wrote.fit is (wrote_fit n _ s t wrote) made image may) same (run.now image may))

  -- after all four calls answered Ok
  pub committed : {n m : ℕ} {s t u v w : State} → log_content g b (length groups) < n → log_gate g b (length groups) < m → Wrote n (log_content g b (length groups)) s t → t ≡ written s (log_content g b (length groups)) content → u ≡ synced t
      → Wrote m (log_gate g b (length groups)) u v → v ≡ written u (log_gate g b (length groups)) (gate_page true) → w ≡ synced v → Leaves (HasLog g b from groups) s u
      → Rests g b from (groups ++ group ∷ []) w
  committed {n} {m} {s} {t} {u} {v} {w} below in_range wrote is made gate gate_is sure run left may =
      let may_v : MayLeave v left = sync_was m v (wrote_fit m _ u v gate) left (subst (λ (x : State). MayLeave x left) sure may) in
      let near = write_near m _ u v gate left may_v in
      let page : block_at left (log_gate g b (length groups)) ≡ gate_page true = written_shown m _ u v (gate_page true) gate.fit in_range gate_is left (sync_only m v (wrote_fit m _ u v gate) left (subst (λ (x : State). MayLeave x left) sure may)) in
      has_log-open g b from groups follows.room near.image left group content follows (content_sure below wrote.fit is (wrote_fit n _ s t wrote) made near.image near.was) near.same (run.now near.image near.was) (ap is_open page)

-- after all four calls answered Ok the slot holds the pages that were written
pub pages_written : (g : Geometry) (b slot : ℕ) (content : List ℕ) {n m : ℕ} {s t u v w : State} → log_content g b slot < n → log_gate g b slot < m → Wrote n (log_content g b slot) s t → t ≡ written s (log_content g b slot) content → u ≡ synced t
    → Wrote m (log_gate g b slot) u v → v ≡ written u (log_gate g b slot) (gate_page true) → w ≡ synced v → (left : Image) → MayLeave w left → HoldsPages g b slot content left
pages_written g b slot content {n} {m} {s} {t} {u} {v} {w} below in_range wrote is made gate gate_is sure left may =
    let fit_v = wrote_fit m _ u v gate in
    let may_s : MayLeave (synced v) left = subst (λ (x : State). MayLeave x left) sure may in
    let near = write_near m _ u v gate left (sync_was m v fit_v left may_s) in
    let sure_t : MayLeave (synced t) near.image = subst (λ (x : State). MayLeave x near.image) made near.was in
    record {
      gate = written_shown m _ u v (gate_page true) gate.fit in_range gate_is left (sync_only m v fit_v left may_s);
      page = near.same.others (log_content g b slot) (λ same. absurd (omega arith)) ∙ written_shown n _ s t content wrote.fit below is near.image (sync_only n t (wrote_fit n _ s t wrote) near.image sure_t);
    }
