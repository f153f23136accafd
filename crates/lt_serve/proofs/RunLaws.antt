-- Runs of the map machine, one after another.
use Rattle.std.proofs.Common.{◌≡◌, ℕ, suc, ◌+◌, ◌≤◌, refl, sym, ap, subst, ◌∙◌, List, [], ◌∷◌, ◌++◌, length, append_assoc, append-nil, length-append, false, cond, Option, Some, None, arith}
use Rattle.std.proofs.lemmas.List.Sums.{sum_by-cons, sum_by-append}
use Rattle.lt_terms.specs.Items.{Item, value_at}
use Rattle.lt_language.specs.Commands.{Command, put, delete, get, stat, bad}
use Rattle.lt_language.specs.Machine.{State, Step, Run, found, taken, accepted}
use Rattle.lt_language.specs.Replies as replies
use Rattle.lt_language.specs.Replies.{Reply, text, texts}
use Rattle.lt_image.specs.Standing.{after_writes}
use Rattle.lt_image.proofs.KeptLaws.{no_writes, writes-joined}
use Rattle.lt_serve.specs.Runs.{ok_count}
use Rattle.lt_serve.specs.Promise.{Runs, is_ok}

-- one run behind another
run-append : (e : ℕ) (s t u : State) (c1 c2 : List Command) (r1 r2 : List Reply) → Run e s c1 r1 t → Run e t c2 r2 u → Run e s (c1 ++ c2) (r1 ++ r2) u
run-append e s t u [] c2 [] r2 first then = subst (λ x. Run e x c2 r2 u) first then
run-append e s t u [] c2 (r ∷ r1) r2 first then = absurd first
run-append e s t u (c ∷ c1) c2 [] r2 first then = absurd first
run-append e s t u (c ∷ c1) c2 (r ∷ r1) r2 first then = (first.0, first.1, run-append e first.0 t u c1 c2 r1 r2 first.2 then)

accepted-append : (e : ℕ) (s t : State) (c1 c2 : List Command) (r1 r2 : List Reply) → Run e s c1 r1 t → accepted (c1 ++ c2) (r1 ++ r2) ≡ accepted c1 r1 ++ accepted c2 r2
accepted-append e s t [] c2 [] r2 run = refl
accepted-append e s t [] c2 (r ∷ r1) r2 run = absurd run
accepted-append e s t (c ∷ c1) c2 [] r2 run = absurd run
accepted-append e s t (c ∷ c1) c2 (r ∷ r1) r2 run = ap (λ xs. taken c r ++ xs) (accepted-append e run.0 t c1 c2 r1 r2 run.2) ∙ sym (append_assoc (taken c r) (accepted c1 r1) (accepted c2 r2))

-- nothing was acted
pub runs-none : (e : ℕ) (s : State) → Runs e s [] [] []
runs-none e s = record { run = no_writes s; taken_are = refl }

-- and then more was acted
pub runs-more : (e : ℕ) (s : State) (c1 c2 : List Command) (r1 r2 : List Reply) (w1 w2 : List Item) → Runs e s c1 r1 w1 → Runs e (after_writes s w1) c2 r2 w2 → Runs e s (c1 ++ c2) (r1 ++ r2) (w1 ++ w2)
runs-more e s c1 c2 r1 r2 w1 w2 first then = record {
  run = subst (λ t. Run e s (c1 ++ c2) (r1 ++ r2) t) (writes-joined s w1 w2) (run-append e s (after_writes s w1) (after_writes (after_writes s w1) w2) c1 c2 r1 r2 first.run then.run);
  taken_are = ap (λ xs. xs ++ w2) first.taken_are ∙ ap (λ xs. accepted c1 r1 ++ xs) then.taken_are ∙ sym (accepted-append e s (after_writes s w1) c1 c2 r1 r2 first.run);
}

-- a reply to each command
run-length : (e : ℕ) (s t : State) (cs : List Command) (rs : List Reply) → Run e s cs rs t → length rs ≡ length cs
run-length e s t [] [] run = refl
run-length e s t [] (r ∷ rs) run = absurd run
run-length e s t (c ∷ cs) [] run = absurd run
run-length e s t (c ∷ cs) (r ∷ rs) run = ap suc (run-length e run.0 t cs rs run.2)

pub runs-length : (e : ℕ) (s : State) (cs : List Command) (rs : List Reply) (ws : List Item) → Runs e s cs rs ws → length rs ≡ length cs
runs-length e s cs rs ws runs = run-length e s (after_writes s ws) cs rs runs.run

-- ---- replies that are an `OK`

pub ok_count-cons : (r : Reply) (rs : List Reply) → ok_count (r ∷ rs) ≡ cond (is_ok r) 1 0 + ok_count rs
ok_count-cons r rs = sum_by-cons (λ x. cond (is_ok x) 1 0) r rs

pub ok_count-append : (xs ys : List Reply) → ok_count (xs ++ ys) ≡ ok_count xs + ok_count ys
ok_count-append xs ys = sum_by-append (λ x. cond (is_ok x) 1 0) xs ys

pub found-not : (v : Option (List ℕ)) → is_ok (found v) ≡ false
found-not None = refl
found-not (Some v) = refl

-- a reply that is no `OK`
not-ok : (c : Command) (reply other : Reply) → reply ≡ other → is_ok other ≡ false → taken c other ≡ [] → cond {A = ℕ} (is_ok reply) 1 0 ≡ length (taken c reply)
not-ok c reply other is none nothing =
    ap (λ r. cond {A = ℕ} (is_ok r) 1 0) is ∙ ap (λ b. cond {A = ℕ} b 1 0) none ∙ sym (ap length (ap (taken c) is ∙ nothing))

-- a step whose reply is `OK` is a write that was taken
step-counts : (e : ℕ) (s t : State) (c : Command) (r : Reply) → Step e s c r t → cond {A = ℕ} (is_ok r) 1 0 ≡ length (taken c r)
step-counts e s t (put key value) replies.ok step = refl
step-counts e s t (put key value) replies.limit step = refl
step-counts e s t (put key value) (replies.full needed free) step = refl
step-counts e s t (put key value) (replies.value v) step = absurd step
step-counts e s t (put key value) replies.none step = absurd step
step-counts e s t (put key value) (replies.stat w r t' f) step = absurd step
step-counts e s t (put key value) (replies.bad kind) step = absurd step
step-counts e s t (delete key) replies.ok step = refl
step-counts e s t (delete key) replies.limit step = refl
step-counts e s t (delete key) (replies.full needed free) step = refl
step-counts e s t (delete key) (replies.value v) step = absurd step
step-counts e s t (delete key) replies.none step = absurd step
step-counts e s t (delete key) (replies.stat w r t' f) step = absurd step
step-counts e s t (delete key) (replies.bad kind) step = absurd step
step-counts e s t (get key) reply step = not-ok (get key) reply (found (value_at s.map key)) step.0 (found-not (value_at s.map key)) refl
step-counts e s t stat replies.ok step = absurd step.0
step-counts e s t stat replies.limit step = absurd step.0
step-counts e s t stat (replies.full needed free) step = absurd step.0
step-counts e s t stat (replies.value v) step = absurd step.0
step-counts e s t stat replies.none step = absurd step.0
step-counts e s t stat (replies.stat w r t' f) step = refl
step-counts e s t stat (replies.bad kind) step = absurd step.0
step-counts e s t (bad kind) reply step = not-ok (bad kind) reply (replies.bad kind) step.0 refl refl

run-counts : (e : ℕ) (s t : State) (cs : List Command) (rs : List Reply) → Run e s cs rs t → ok_count rs ≡ length (accepted cs rs)
run-counts e s t [] [] run = refl
run-counts e s t [] (r ∷ rs) run = absurd run
run-counts e s t (c ∷ cs) [] run = absurd run
run-counts e s t (c ∷ cs) (r ∷ rs) run =
    let one = step-counts e s run.0 c r run.1 in
    let more = run-counts e run.0 t cs rs run.2 in
    omega (arith, one, more, ok_count-cons r rs, length-append (taken c r) (accepted cs rs))

-- each `OK` is a write that was taken, and there is no other
pub runs-oks : (e : ℕ) (s : State) (cs : List Command) (rs : List Reply) (ws : List Item) → Runs e s cs rs ws → ok_count rs ≡ length ws
runs-oks e s cs rs ws runs = run-counts e s (after_writes s ws) cs rs runs.run ∙ sym (ap length runs.taken_are)

pub runs-counts : (e : ℕ) (s : State) (cs : List Command) (rs : List Reply) (ws : List Item) → Runs e s cs rs ws → ok_count rs ≤ length ws
runs-counts e s cs rs ws runs = omega (arith, runs-oks e s cs rs ws runs)

-- ---- their texts

pub texts-append : (xs ys : List Reply) → texts (xs ++ ys) ≡ texts xs ++ texts ys
texts-append [] ys = refl
texts-append (x ∷ xs) ys = ap (λ rest. text x ++ rest) (texts-append xs ys) ∙ sym (append_assoc (text x) (texts xs) (texts ys))

pub texts-more : (rs : List Reply) (r : Reply) → texts (rs ++ r ∷ []) ≡ texts rs ++ text r
texts-more rs r = texts-append rs (r ∷ []) ∙ ap (λ xs. texts rs ++ xs) (append-nil (text r))
