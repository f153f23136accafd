-- What `STAT` replies tell, over runs that come one after another.
use Rattle.std.proofs.Common.{◌≡◌, ℕ, zero, suc, ◌+◌, ◌-◌, ◌≤◌, sym, ap, subst, ◌∙◌, List, [], ◌∷◌, ◌++◌, length, take, drop, append-nil, cond, inl, inr, arith}
use Rattle.std.proofs.lemmas.Bool.{cases_lt}
use Rattle.std.proofs.lemmas.List.{drop-drop, take-append-le, take_all}
use Rattle.std.proofs.Math.Seq.{take-length, take-append-add}
use Rattle.lt_terms.specs.Bytes.{Image}
use Rattle.lt_terms.specs.Items.{Item}
use Rattle.lt_device.specs.Moments.{InOneOf, LeftSince, Leaves, MayLeave, clock}
use Rattle.lt_device.specs.State as told
use Rattle.lt_device.specs.State.{Epoch}
use Rattle.lt_image.specs.Standing.{HasCounts}
use Rattle.lt_image.specs.Standing.{IsPrefix, after_writes}
use Rattle.lt_image.proofs.PrefixLaws.{prefix-fewer, prefix-later, prefix-longer}
use Rattle.lt_language.specs.declared.Bad.{Bad}
use Rattle.lt_language.specs.Machine.{State}
use Rattle.lt_language.specs.Replies as replies
use Rattle.lt_language.specs.Replies.{Reply}
use Rattle.lt_serve.specs.Promise.{EachStat, IsCounted, KeepsPast, Moment, OnStat, ReadsRise, TellsCounts, is_ok}
use Rattle.lt_serve.specs.Runs.{ok_count}
use Rattle.lt_serve.proofs.RunLaws.{ok_count-cons}

-- ---- the reads

reads-lower : (a b high : ℕ) (rs : List Reply) → a ≤ b → ReadsRise b high rs → ReadsRise a high rs
reads-lower a b high [] le rise = omega arith
reads-lower a b high (replies.stat w r t f ∷ rs) le rise = (let first : b ≤ r = rise.0 in omega arith, rise.1)
reads-lower a b high (replies.ok ∷ rs) le rise = reads-lower a b high rs le rise
reads-lower a b high (replies.value v ∷ rs) le rise = reads-lower a b high rs le rise
reads-lower a b high (replies.none ∷ rs) le rise = reads-lower a b high rs le rise
reads-lower a b high (replies.full n f ∷ rs) le rise = reads-lower a b high rs le rise
reads-lower a b high (replies.limit ∷ rs) le rise = reads-lower a b high rs le rise
reads-lower a b high (replies.bad kind ∷ rs) le rise = reads-lower a b high rs le rise

reads-append : (low mid high : ℕ) (rs ss : List Reply) → ReadsRise low mid rs → ReadsRise mid high ss → ReadsRise low high (rs ++ ss)
reads-append low mid high [] ss first then = reads-lower low mid high ss first then
reads-append low mid high (replies.stat w r t f ∷ rs) ss first then = (first.0, reads-append r mid high rs ss first.1 then)
reads-append low mid high (replies.ok ∷ rs) ss first then = reads-append low mid high rs ss first then
reads-append low mid high (replies.value v ∷ rs) ss first then = reads-append low mid high rs ss first then
reads-append low mid high (replies.none ∷ rs) ss first then = reads-append low mid high rs ss first then
reads-append low mid high (replies.full n f ∷ rs) ss first then = reads-append low mid high rs ss first then
reads-append low mid high (replies.limit ∷ rs) ss first then = reads-append low mid high rs ss first then
reads-append low mid high (replies.bad kind ∷ rs) ss first then = reads-append low mid high rs ss first then

-- ---- tables and free extents

pub on-stat : (P Q : ℕ → ℕ → Type 0) → ((t f : ℕ) → P t f → Q t f) → (r : Reply) → OnStat P r → OnStat Q r
on-stat P Q weaker (replies.stat w r t f) p = weaker t f p
on-stat P Q weaker replies.ok p = tt
on-stat P Q weaker (replies.value v) p = tt
on-stat P Q weaker replies.none p = tt
on-stat P Q weaker (replies.full n f) p = tt
on-stat P Q weaker replies.limit p = tt
on-stat P Q weaker (replies.bad kind) p = tt

each-weaker : (P Q : ℕ → ℕ → ℕ → Type 0) → ((n t f : ℕ) → P n t f → Q n t f) → (n : ℕ) (rs : List Reply) → EachStat P n rs → EachStat Q n rs
each-weaker P Q weaker n [] each = tt
each-weaker P Q weaker n (r ∷ rs) each = (on-stat (P n) (Q n) (weaker n) r each.0, each-weaker P Q weaker (n + cond {A = ℕ} (is_ok r) 1 0) rs each.1)

each-append : (P : ℕ → ℕ → ℕ → Type 0) (n : ℕ) (rs ss : List Reply) → EachStat P n rs → EachStat P (n + ok_count rs) ss → EachStat P n (rs ++ ss)
each-append P n [] ss first then = subst (λ k. EachStat P k ss) (omega arith) then
each-append P n (r ∷ rs) ss first then =
    let k : ℕ = cond {A = ℕ} (is_ok r) 1 0 in
    let same : n + ok_count (r ∷ rs) ≡ (n + k) + ok_count rs = omega (arith, ok_count-cons r rs) in
    (first.0, each-append P (n + k) rs ss first.1 (subst (λ m. EachStat P m ss) same then))

each-behind : (P Q : ℕ → ℕ → ℕ → Type 0) (k : ℕ) → ((n t f : ℕ) → P n t f → Q (k + n) t f) → (n : ℕ) (rs : List Reply) → EachStat P n rs → EachStat Q (k + n) rs
each-behind P Q k later n [] each = tt
each-behind P Q k later n (r ∷ rs) each =
    let one : ℕ = cond {A = ℕ} (is_ok r) 1 0 in
    let same : k + (n + one) ≡ (k + n) + one = omega arith in
    (on-stat (P n) (Q (k + n)) (later n) r each.0, subst (λ m. EachStat Q m rs) same (each-behind P Q k later (n + one) rs each.1))

-- ---- a told past

-- where a device tells its past, and some image, each call keeps it told
pub past-stays : {P : Image → Type 0} (old new : told.State) (image : Image) → MayLeave old image → Leaves P old new → KeepsPast old new
past-stays old new image may run = λ first is.
    let since : LeftSince new (clock old) image = run.keeps (clock old) image (omega arith) (record { epochs = first; past_is = is; some_time = inl may }) in
    (since.epochs, since.past_is)

past-more : (old mid new : told.State) → KeepsPast old mid → KeepsPast mid new → KeepsPast old new
past-more old mid new first then = λ epochs is. let between = first epochs is in then between.0 between.1

in-rest : (n : ℕ) (epochs : List Epoch) (left : Image) → InOneOf (drop n epochs) left → InOneOf epochs left
in-rest zero epochs left some = some
in-rest (suc n) [] left some = some
in-rest (suc n) (e ∷ epochs) left some = inr (in-rest n epochs left some)

-- an image that was left since a later time was left since an earlier one
since-earlier : (s : told.State) (t u : ℕ) (left : Image) → t ≤ u → LeftSince s u left → LeftSince s t left
since-earlier s t u left le since = record {
  epochs = since.epochs;
  past_is = since.past_is;
  some_time = elim since.some_time [
    | inl now ↦ inl now
    | inr then ↦
        let n : t + (u - t) ≡ u = omega arith in
        let cut : drop (u - t) (drop t since.epochs) ≡ drop u since.epochs = drop-drop (u - t) t since.epochs ∙ ap (λ k. drop k since.epochs) n in
        inr (in-rest (u - t) (drop t since.epochs) left (subst (λ xs. InOneOf xs left) (sym cut) then))
  ];
}

-- ---- the image of a `STAT`

take-more : (n : ℕ) (xs ys : List Item) → take n (xs ++ ys) ≡ take n xs ++ take (n - length xs) ys
take-more n xs ys = elim (cases_lt n (length xs)) [
  | inl less ↦
      let none : n - length xs ≡ 0 = omega arith in
      take-append-le n xs ys (omega arith) ∙ sym (append-nil (take n xs)) ∙ ap (λ m. take n xs ++ take m ys) (sym none)
  | inr all ↦
      let whole : length xs + (n - length xs) ≡ n = omega arith in
      ap (λ m. take m (xs ++ ys)) (sym whole) ∙ take-append-add xs ys (n - length xs) ∙ ap (λ ws. ws ++ take (n - length xs) ys) (sym (take_all n xs all))
]

module _ (before : State) (first rest : List Item) (old mid new : told.State) (ahead : clock old ≤ clock mid) where
  counted-longer : {P : Image → Type 0} → Leaves P mid new → (n t f : ℕ) → IsCounted before first old mid n t f → IsCounted before (first ++ rest) old new n t f
  counted-longer later n t f c = record {
    left = c.left;
    has = subst (λ ws. IsPrefix c.left before ws (n - 818)) (sym (take-more n first rest)) (prefix-longer c.left before (take n first) (take (n - length first) rest) (n - 818) c.has);
    counts = c.counts;
    since = λ epochs is. later.keeps (clock old) c.left ahead (c.since epochs is);
  }

  counted-later : (k : ℕ) → k ≡ length first → KeepsPast old mid → (n t f : ℕ) → IsCounted (after_writes before first) rest mid new n t f → IsCounted before (first ++ rest) old new (k + n) t f
  counted-later k same past n t f c =
      let cut : take (k + n) (first ++ rest) ≡ first ++ take n rest = ap (λ m. take (m + n) (first ++ rest)) same ∙ take-append-add first rest n in
      record {
        left = c.left;
        has = subst (λ ws. IsPrefix c.left before ws (k + n - 818)) (sym cut)
            (prefix-fewer c.left before (first ++ take n rest) (k + n - 818) (length first + (n - 818)) (omega arith) (prefix-later c.left before first (take n rest) (n - 818) c.has));
        counts = c.counts;
        since = λ epochs is. let between = past epochs is in since-earlier new (clock old) (clock mid) c.left ahead (c.since between.0 between.1);
      }

-- ---- one run behind another

module _ (before : State) (rs ss : List Reply) (first rest : List Item) (old mid new : Moment) where
  pub counts-more : {P Q : Image → Type 0} → Leaves P old.state mid.state → Leaves Q mid.state new.state → ok_count rs ≡ length first → TellsCounts before rs first old mid → TellsCounts (after_writes before first) ss rest mid new
      → TellsCounts before (rs ++ ss) (first ++ rest) old new
  counts-more earlier later same a b = record {
    reads = reads-append old.reads mid.reads new.reads rs ss a.reads b.reads;
    images = each-append (IsCounted before (first ++ rest) old.state new.state) 0 rs ss
        (each-weaker (IsCounted before first old.state mid.state) (IsCounted before (first ++ rest) old.state new.state) (counted-longer before first rest old.state mid.state new.state earlier.later later) 0 rs a.images)
        (let n : ok_count rs + 0 ≡ 0 + ok_count rs = omega arith in
        subst (λ m. EachStat (IsCounted before (first ++ rest) old.state new.state) m ss) n
        (each-behind (IsCounted (after_writes before first) rest mid.state new.state) (IsCounted before (first ++ rest) old.state new.state) (ok_count rs) (counted-later before first rest old.state mid.state new.state earlier.later (ok_count rs) same a.past) 0 ss b.images));
    past = past-more old.state mid.state new.state a.past b.past;
  }

-- a reply that is no `STAT`, and no `OK`, at the end
pub counts-bad : (before : State) (rs : List Reply) (kind : Bad) (writes : List Item) (old new : Moment) → TellsCounts before rs writes old new → TellsCounts before (rs ++ replies.bad kind ∷ []) writes old new
counts-bad before rs kind writes old new a = record {
  reads = reads-append old.reads new.reads new.reads rs (replies.bad kind ∷ []) a.reads (omega arith);
  images = each-append (IsCounted before writes old.state new.state) 0 rs (replies.bad kind ∷ []) a.images (tt, tt);
  past = a.past;
}

-- no reply, and the device is as it was, but that it may have read
pub counts-none : (before : State) (old new : Moment) → old.state ≡ new.state → old.reads ≤ new.reads → TellsCounts before [] [] old new
counts-none before old new same reads = record {
  reads = reads;
  images = tt;
  past = λ first is. (first, ap (λ (s : told.State). s.past) (sym same) ∙ is);
}

-- no reply, while the images of the device go on
pub counts-quiet : {P : Image → Type 0} (before : State) (old new : Moment) (image : Image) → MayLeave old.state image → Leaves P old.state new.state → old.reads ≤ new.reads → TellsCounts before [] [] old new
counts-quiet before old new image may run reads = record { reads = reads; images = tt; past = past-stays old.state new.state image may run }

-- and so behind a run
pub counts-still : {P Q : Image → Type 0} (before s : State) (rs : List Reply) (writes : List Item) (old mid new : Moment) → Leaves P old.state mid.state → Leaves Q mid.state new.state → TellsCounts before rs writes old mid → TellsCounts s [] [] mid new → TellsCounts before rs writes old new
counts-still before s rs writes old mid new earlier later a b = record {
  reads = subst (λ xs. ReadsRise old.reads new.reads xs) (append-nil rs) (reads-append old.reads mid.reads new.reads rs [] a.reads b.reads);
  images = subst (λ ws. EachStat (IsCounted before ws old.state new.state) 0 rs) (append-nil writes)
      (each-weaker (IsCounted before writes old.state mid.state) (IsCounted before (writes ++ []) old.state new.state) (counted-longer before writes [] old.state mid.state new.state earlier.later later) 0 rs a.images);
  past = past-more old.state mid.state new.state a.past b.past;
}

-- counted from fewer reads, on the same device
pub counts-earlier : (before : State) (rs : List Reply) (writes : List Item) (first old new : Moment) → first.state ≡ old.state → first.reads ≤ old.reads → TellsCounts before rs writes old new → TellsCounts before rs writes first new
counts-earlier before rs writes first old new same le a = record {
  reads = reads-lower first.reads old.reads new.reads rs le a.reads;
  images = subst (λ s. EachStat (IsCounted before writes s new.state) 0 rs) (sym same) a.images;
  past = subst (λ s. KeepsPast s new.state) (sym same) a.past;
}

-- ---- a command behind a run

-- a command was answered behind a run: the image that the device shows then has these first writes
pub counts-line : {P Q : Image → Type 0} (before : State) (rs : List Reply) (writes more : List Item) (reply : Reply) (old mid new : Moment) → Leaves P old.state mid.state → Leaves Q mid.state new.state → ok_count rs ≡ length writes → TellsCounts before rs writes old mid
    → (pending : List Item) → ReadsRise mid.reads new.reads (reply ∷ []) → OnStat (λ tables free. (length pending ≤ 818) × ((left : Image) → MayLeave mid.state left → HasCounts left tables free)) reply → KeepsPast mid.state new.state
    → (image : Image) → MayLeave mid.state image → (length pending ≤ 818 → IsPrefix image before writes (length writes - 818)) → TellsCounts before (rs ++ reply ∷ []) (writes ++ more) old new
counts-line before rs writes more reply old mid new earlier later same a pending reads images past image may has = record {
  reads = reads-append old.reads mid.reads new.reads rs (reply ∷ []) a.reads reads;
  images = each-append (IsCounted before (writes ++ more) old.state new.state) 0 rs (reply ∷ [])
      (each-weaker (IsCounted before writes old.state mid.state) (IsCounted before (writes ++ more) old.state new.state) (counted-longer before writes more old.state mid.state new.state earlier.later later) 0 rs a.images) (
        on-stat (λ tables free. (length pending ≤ 818) × ((left : Image) → MayLeave mid.state left → HasCounts left tables free)) (IsCounted before (writes ++ more) old.state new.state (0 + ok_count rs))
            (λ tables free told.
            let n : 0 + ok_count rs ≡ length writes = omega (arith, same) in
            let cut : take (0 + ok_count rs) (writes ++ more) ≡ writes = ap (λ m. take m (writes ++ more)) n ∙ take-append-le (length writes) writes more (omega arith) ∙ take-length writes in
            record {
              left = image;
              has = subst (λ ws. IsPrefix image before ws (0 + ok_count rs - 818)) (sym cut) (subst (λ m. IsPrefix image before writes (m - 818)) (sym n) (has told.0));
              counts = told.1 image may;
              since = λ epochs is.
                  let between = a.past epochs is in
                  later.keeps (clock old.state) image earlier.later (record { epochs = between.0; past_is = between.1; some_time = inl may });
            }) reply images,
        tt,
      );
  past = past-more old.state mid.state new.state a.past past;
}
