-- What a crash may leave after one call, by what it may leave before.
use Rattle.std.proofs.Common.{◌≡◌, ◌⊎◌, inl, inr, ⊎_elim, ℕ, zero, suc, ◌<◌, ◌≤◌, Bool, true, false, List, [], ◌∷◌, ◌++◌, length, get_or, set, map, drop, Option, Some, None, refl, sym, ◌∙◌, ap, subst, arith, length-append}
use Rattle.std.specs.Option.{option_map}
use Rattle.std.proofs.lemmas.List.{length-set}
use Rattle.lt_terms.specs.Bytes.{Image, IsBlock, block_at}
use Rattle.lt_device.specs.State.{IsWhole, IsCrashOf, SameOutside, Epoch, State, written, synced, longer_past, Wrote, EndedSync, IsFit}
use Rattle.lt_device.specs.Moments.{MayLeave, clock, length_of_past, InOneOf, LeftSince, IsNear}
use Rattle.lt_device.proofs.Images.{block_at-set_same, block_at-set_other, crash_before_write, crash_any_page, crash_after_write, crash_none, crash_only, all_sure}

-- ---- options

pub option_map-Some : {A B : Type 0} (f : A → B) (o : Option A) (y : B) → option_map f o ≡ Some y → (x : A) × (o ≡ Some x) × (f x ≡ y)
option_map-Some f None y e = absurd (cc)
option_map-Some f (Some x) y e = (x, refl, cc)

pub same_some : {A : Type 0} (o : Option A) (x y : A) → o ≡ Some x → o ≡ Some y → x ≡ y
same_some o x y a b = cc

-- ---- what a crash leaves is a whole image

pub left_whole : (n : ℕ) (s : State) → IsFit n s → (left : Image) → MayLeave s left → IsWhole n left
left_whole n s fit left may = record { size = may.crash.size ∙ (fit.shown may.shown may.shown_is).size; pages = may.crash.pages }

-- ---- a write

module _ (n b : ℕ) (old new : State) (wrote : Wrote n b old new) where
  abbrev fit : IsFit n old
  fit = wrote.fit

  pub write_near : (left : Image) → MayLeave new left → IsNear (λ k. k ≡ b) old left
  write_near left may =
      let at_shown = option_map-Some (λ (image : Image). set image b wrote.page) old.shown may.shown (sym (ap (λ (s : State). s.shown) wrote.is) ∙ may.shown_is) in
      let at_flags = option_map-Some (λ (flags : List Bool). set flags b true) old.unsynced may.unsynced (sym (ap (λ (s : State). s.unsynced) wrote.is) ∙ may.unsynced_is) in
      let image = at_shown.0 in
      let flags = at_flags.0 in
      let whole = fit.shown image at_shown.1 in
      let long = fit.unsynced flags at_flags.1 in
      let crash : IsCrashOf (set image b wrote.page) (set flags b true) left =
      subst (λ (i : Image). IsCrashOf i (set flags b true) left) (sym at_shown.2) (subst (λ (f : List Bool). IsCrashOf may.shown f left) (sym at_flags.2) may.crash) in
      record {
        image = set left b (block_at image b);
        was = record { shown = image; unsynced = flags; shown_is = at_shown.1; unsynced_is = at_flags.1; crash = crash_before_write image flags n b wrote.page whole long.2 left crash };
        same = record { size = sym (length-set left b (block_at image b)); others = λ k out. sym (block_at-set_other left b k (block_at image b) out) };
      }

  pub write_any : (left : Image) (page : List ℕ) → IsBlock page → MayLeave old left → MayLeave new (set left b page)
  write_any left page is may =
      let whole = fit.shown may.shown may.shown_is in
      let long = fit.unsynced may.unsynced may.unsynced_is in
      record {
        shown = set may.shown b wrote.page;
        unsynced = set may.unsynced b true;
        shown_is = ap (λ (s : State). s.shown) wrote.is ∙ ap (option_map (λ (image : Image). set image b wrote.page)) may.shown_is;
        unsynced_is = ap (λ (s : State). s.unsynced) wrote.is ∙ ap (option_map (λ (flags : List Bool). set flags b true)) may.unsynced_is;
        crash = crash_any_page may.shown may.unsynced n b wrote.page whole long.2 left page is may.crash;
      }

  pub write_keeps : (left : Image) → MayLeave old left → MayLeave new left
  write_keeps left may =
      let whole = fit.shown may.shown may.shown_is in
      let long = fit.unsynced may.unsynced may.unsynced_is in
      record {
        shown = set may.shown b wrote.page;
        unsynced = set may.unsynced b true;
        shown_is = ap (λ (s : State). s.shown) wrote.is ∙ ap (option_map (λ (image : Image). set image b wrote.page)) may.shown_is;
        unsynced_is = ap (λ (s : State). s.unsynced) wrote.is ∙ ap (option_map (λ (flags : List Bool). set flags b true)) may.unsynced_is;
        crash = crash_after_write may.shown may.unsynced n b wrote.page whole long.2 left may.crash;
      }

  pub write_clock : clock new ≡ clock old
  write_clock = ap (λ (s : State). length_of_past s.past) wrote.is

  pub write_since : (t : ℕ) (left : Image) → LeftSince new t left → LeftSince old t left ⊎ MayLeave new left
  write_since t left since = ⊎_elim
      (λ now. inr now)
      (λ then. inl (record { epochs = since.epochs; past_is = sym (ap (λ (s : State). s.past) wrote.is) ∙ since.past_is; some_time = inr then }))
      since.some_time

  pub write_since_keeps : (t : ℕ) (left : Image) → LeftSince old t left → LeftSince new t left
  write_since_keeps t left since = record {
    epochs = since.epochs;
    past_is = ap (λ (s : State). s.past) wrote.is ∙ since.past_is;
    some_time = ⊎_elim (λ now. inl (write_keeps left now)) (λ then. inr then) since.some_time;
  }

-- the blocks after a write that answered Ok
pub written_is : (b : ℕ) (old new : State) (page : List ℕ) → new ≡ written old b page → (image : Image) → new.shown ≡ Some image → (before : Image) × (old.shown ≡ Some before) × (image ≡ set before b page)
written_is b old new page is image shown =
    let before = option_map-Some (λ (i : Image). set i b page) old.shown image (sym (ap (λ (s : State). s.shown) is) ∙ shown) in
    (before.0, before.1, sym before.2)

-- the block that it wrote
pub written_shown : (n b : ℕ) (old new : State) (page : List ℕ) → IsFit n old → b < n → new ≡ written old b page → (image : Image) → new.shown ≡ Some image → block_at image b ≡ page
written_shown n b old new page fit below is image shown =
    let before = option_map-Some (λ (i : Image). set i b page) old.shown image (sym (ap (λ (s : State). s.shown) is) ∙ shown) in
    let size = (fit.shown before.0 before.1).size in
    subst (λ (i : Image). block_at i b ≡ page) before.2 (block_at-set_same before.0 b page (omega arith))

-- all others, whatever it answered
pub wrote_others : (n b : ℕ) (old new : State) (before : Image) → Wrote n b old new → old.shown ≡ Some before → (image : Image) × (new.shown ≡ Some image) × SameOutside (λ k. k ≡ b) before image
wrote_others n b old new before wrote is = (
  set before b wrote.page,
  ap (λ (s : State). s.shown) wrote.is ∙ ap (option_map (λ (i : Image). set i b wrote.page)) is,
  record { size = length-set before b wrote.page; others = λ k out. block_at-set_other before b k wrote.page out },
)

-- a sync, whatever it answered
pub ended_shown : (n : ℕ) (old new : State) → EndedSync n old new → new.shown ≡ old.shown
ended_shown n old new sync = ⊎_elim
    (λ (same : new ≡ old). ap (λ (s : State). s.shown) same)
    (λ (done : new ≡ synced old). ap (λ (s : State). s.shown) done)
    sync.either

-- ---- epochs

in_more : (epochs : List Epoch) (e : Epoch) (left : Image) → InOneOf epochs left → InOneOf (epochs ++ e ∷ []) left
in_more [] e left one = absurd one
in_more (f ∷ epochs) e left (inl here) = inl here
in_more (f ∷ epochs) e left (inr there) = inr (in_more epochs e left there)

in_newest : (epochs : List Epoch) (e : Epoch) (left : Image) → IsCrashOf e.shown e.unsynced left → InOneOf (epochs ++ e ∷ []) left
in_newest [] e left crash = inl crash
in_newest (f ∷ epochs) e left crash = inr (in_newest epochs e left crash)

in_either : (epochs : List Epoch) (e : Epoch) (left : Image) → InOneOf (epochs ++ e ∷ []) left → InOneOf epochs left ⊎ IsCrashOf e.shown e.unsynced left
in_either [] e left (inl here) = inr here
in_either [] e left (inr none) = absurd none
in_either (f ∷ epochs) e left (inl here) = inl (inl here)
in_either (f ∷ epochs) e left (inr there) = ⊎_elim (λ old. inl (inr old)) (λ new. inr new) (in_either epochs e left there)

drop_push : (t : ℕ) (epochs : List Epoch) (e : Epoch) → t ≤ length epochs → drop t (epochs ++ e ∷ []) ≡ drop t epochs ++ e ∷ []
drop_push zero epochs e le = refl
drop_push (suc t) [] e le = absurd (omega arith)
drop_push (suc t) (f ∷ epochs) e le = drop_push t epochs e (omega arith)

none_left : (epochs : List Epoch) (left : Image) → InOneOf (drop (length epochs) epochs) left → ⊥
none_left [] left none = none
none_left (e ∷ epochs) left none = none_left epochs left none

-- since this moment there is no other
pub since_now : (s : State) (left : Image) → LeftSince s (clock s) left → MayLeave s left
since_now s left since = ⊎_elim
    (λ now. now)
    (λ then. absurd (none_left since.epochs left (subst (λ (t : ℕ). InOneOf (drop t since.epochs) left) (ap length_of_past since.past_is) then)))
    since.some_time

-- this moment is one of those since an earlier one
pub now_since : (s : State) (t : ℕ) (left : Image) (epochs : List Epoch) → s.past ≡ Some epochs → MayLeave s left → LeftSince s t left
now_since s t left epochs is now = record { epochs = epochs; past_is = is; some_time = inl now }

-- ---- a sync that answered Ok

pub longer_past-Some : (shown : Option Image) (flags : Option (List Bool)) (past : Option (List Epoch)) (epochs : List Epoch) → longer_past shown flags past ≡ Some epochs → (before : List Epoch) × (past ≡ Some before)
longer_past-Some None flags None epochs is = absurd (cc)
longer_past-Some None flags (Some before) epochs is = (before, refl)
longer_past-Some (Some image) None None epochs is = absurd (cc)
longer_past-Some (Some image) None (Some before) epochs is = (before, refl)
longer_past-Some (Some image) (Some f) None epochs is = absurd (cc)
longer_past-Some (Some image) (Some f) (Some before) epochs is = (before, refl)

longer : (shown : Option Image) (flags : Option (List Bool)) (past : Option (List Epoch)) → length_of_past past ≤ length_of_past (longer_past shown flags past)
longer None flags None = omega arith
longer None flags (Some before) = omega arith
longer (Some image) None None = omega arith
longer (Some image) None (Some before) = omega arith
longer (Some image) (Some f) None = omega arith
longer (Some image) (Some f) (Some before) = omega (arith, length-append before (record { shown = image; unsynced = f } ∷ []))

module _ (n : ℕ) (s : State) (fit : IsFit n s) where
  -- a crash leaves what is read
  pub sync_only : (left : Image) → MayLeave (synced s) left → s.shown ≡ Some left
  sync_only left may =
      let at_flags = option_map-Some (map (λ _. false)) s.unsynced may.unsynced may.unsynced_is in
      let is : left ≡ may.shown = crash_only may.shown may.unsynced left (λ k. subst (λ (f : List Bool). get_or f k false ≡ false) at_flags.2 (all_sure at_flags.0 k)) may.crash in
      may.shown_is ∙ ap Some (sym is)

  -- which it might have left before
  pub sync_was : (left : Image) → MayLeave (synced s) left → MayLeave s left
  sync_was left may =
      let at_flags = option_map-Some (map (λ _. false)) s.unsynced may.unsynced may.unsynced_is in
      let shown = sync_only left may in
      record { shown = left; unsynced = at_flags.0; shown_is = shown; unsynced_is = at_flags.1; crash = crash_none left at_flags.0 (fit.shown left shown).pages }

  -- what is read is left, where the images are told
  pub sync_shown : (image : Image) (flags : List Bool) → s.shown ≡ Some image → s.unsynced ≡ Some flags → MayLeave (synced s) image
  sync_shown image flags is told = record { shown = image; unsynced = map (λ _. false) flags; shown_is = is; unsynced_is = ap (option_map (map (λ _. false))) told; crash = crash_none image _ (fit.shown image is).pages }

  pub sync_clock : clock s ≤ clock (synced s)
  sync_clock = longer s.shown s.unsynced s.past

  -- the epoch that ends
  record Ended (epochs : List Epoch) : Type 0 where
    image : Image
    flags : List Bool
    image_is : s.shown ≡ Some image
    flags_is : s.unsynced ≡ Some flags
    past_is : (synced s).past ≡ Some (epochs ++ record { shown = image; unsynced = flags } ∷ [])

  ended : (epochs : List Epoch) → s.past ≡ Some epochs → Ended epochs
  ended epochs is =
      let told = fit.past epochs is in
      let shows = fit.unsynced told.0 told.1 in
      let image_is = shows.1 in
      let flags_is = told.1 in
      record { image = shows.0; flags = told.0; image_is = image_is; flags_is = flags_is; past_is = cc }

  pub sync_since : (t : ℕ) (left : Image) → t ≤ clock s → LeftSince (synced s) t left → LeftSince s t left
  sync_since t left le since =
      let before = longer_past-Some s.shown s.unsynced s.past since.epochs since.past_is in
      let epochs = before.0 in
      let e = ended epochs before.1 in
      let all : since.epochs ≡ epochs ++ record { shown = e.image; unsynced = e.flags } ∷ [] = same_some (synced s).past _ _ since.past_is e.past_is in
      let at_most : t ≤ length epochs = subst (λ (m : ℕ). t ≤ m) (ap length_of_past before.1) le in
      let now : MayLeave s left → LeftSince s t left = λ may. record { epochs = epochs; past_is = before.1; some_time = inl may } in
      ⊎_elim
      (λ may. now (sync_was left may))
      (λ one. ⊎_elim
      (λ old. record { epochs = epochs; past_is = before.1; some_time = inr old })
      (λ crash. now (record { shown = e.image; unsynced = e.flags; shown_is = e.image_is; unsynced_is = e.flags_is; crash = crash }))
      (in_either (drop t epochs) (record { shown = e.image; unsynced = e.flags }) left (subst (λ (l : List Epoch). InOneOf l left) (drop_push t epochs _ at_most) (subst (λ (l : List Epoch). InOneOf (drop t l) left) all one))))
      since.some_time

  pub sync_since_keeps : (t : ℕ) (left : Image) → t ≤ clock s → LeftSince s t left → LeftSince (synced s) t left
  sync_since_keeps t left le since =
      let epochs = since.epochs in
      let e = ended epochs since.past_is in
      let at_most : t ≤ length epochs = subst (λ (m : ℕ). t ≤ m) (ap length_of_past since.past_is) le in
      let newest : Epoch = record { shown = e.image; unsynced = e.flags } in
      record {
        epochs = epochs ++ newest ∷ [];
        past_is = e.past_is;
        some_time = inr (subst (λ (l : List Epoch). InOneOf l left) (sym (drop_push t epochs newest at_most)) (⊎_elim
            (λ may. in_newest (drop t epochs) newest left (subst (λ (i : Image). IsCrashOf i e.flags left) (same_some s.shown may.shown e.image may.shown_is e.image_is) (subst (λ (f : List Bool). IsCrashOf may.shown f left) (same_some s.unsynced may.unsynced e.flags may.unsynced_is e.flags_is) may.crash)))
            (λ one. in_more (drop t epochs) newest left one)
            since.some_time));
      }
