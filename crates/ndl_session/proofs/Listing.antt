-- The text of a view from its three lines, and the statuses of replies.
use Rattle.std.proofs.Common.{◌≡◌, ℕ, pos, ◌≤◌, List, [], ◌∷◌, ◌++◌, map, codes, decimal, Option, Some, None, refl, ap, ◌∙◌, sym, arith}
use Rattle.std.specs.Fmt.{signed_decimal}
use Rattle.std.specs.Iterator.{Drains}
use Rattle.std.proofs.lemmas.Iterator.{YieldsList, items_from_drains}
use Rattle.std.proofs.lemmas.List.{map-id}
use Rattle.ndarray_layout.specs.Axes.{axes}
use Rattle.ndarray_layout.specs.declared.ErrorKind.{ErrorKind}
use Rattle.ndarray_layout.specs.declared.Order.TheVariants.{RowMajor}
use Rattle.ndarray_layout.specs.View.{IsView, View, view_places}
use Rattle.ndarray_layout.specs.Run.{Outcome}
use Rattle.ndarray_layout.proofs.Laws.Axes.{lens-axes_from, strides-axes_from}
use Rattle.ndl_session.specs.Answer.{Reply, listing, unless, reply_to_run, reply_to_script}
use Rattle.ndl_session.specs.script.Script.{ScriptValue}
use Rattle.ndl_session.specs.text.Printing.{line, listed}

-- a place is not negative, so with a sign it prints as it does without
printed_places : (places : List ℕ) → map signed_decimal (map pos places) ≡ map decimal places
printed_places [] = refl
printed_places (place ∷ places) = ap (λ texts. decimal place ∷ texts) (printed_places places)

-- one line after another
three_lines : {t0 t1 t2 t3 : List ℕ} (a b c : List ℕ) → t0 ≡ [] → t1 ≡ t0 ++ a → t2 ≡ t1 ++ b → t3 ≡ t2 ++ c → t3 ≡ a ++ b ++ c
three_lines a b c e0 e1 e2 e3 = e3 ∙ ap (λ t. t ++ c) (e2 ∙ ap (λ t. t ++ b) (e1 ∙ ap (λ t. t ++ a) e0))

places_texts : (view : View) (places : List ℕ) → map pos places ≡ view_places RowMajor view
    → map decimal places ≡ map signed_decimal (view_places RowMajor view)
places_texts view places same = sym (printed_places places) ∙ ap (map signed_decimal) same

-- a line of all that an iterator gives
pub line_of_all : {S A : Type 0} {steps : S → Option A → S → Type 0} {source : S} {new : List ℕ} (spelled : A → List ℕ)
    (name separator old : List ℕ) (all : List A) → YieldsList steps (λ item. item) source all
    → ((list : List A) × Drains steps source list × (new ≡ old ++ line name (listed separator (map spelled list))))
    → new ≡ old ++ line name (listed separator (map spelled all))
line_of_all spelled name separator old all gives (list, (last, (end, taken, none)), e) =
    e ∙ ap (λ items. old ++ line name (listed separator (map spelled items)))
    (sym (map-id list) ∙ items_from_drains list (end, taken, λ _. (last, none)) gives)

pub listing_text : {view : View} {t0 t1 t2 t3 : List ℕ} (places : List ℕ) → IsView view → map pos places ≡ view_places RowMajor view
    → t0 ≡ []
    → t1 ≡ t0 ++ line (codes "shape") (listed (codes ",") (map decimal (map (λ axis. axis.len) (axes view.shape view.strides))))
    → t2 ≡ t1 ++ line (codes "strides") (listed (codes ",") (map signed_decimal (map (λ axis. axis.stride) (axes view.shape view.strides))))
    → t3 ≡ t2 ++ line (codes "places") (listed (codes " ") (map decimal places))
    → t3 ≡ (listing view).text
listing_text {view} {t0} {t1} {t2} places is_view same e0 e1 e2 e3 =
    let count = is_view.valid.same_count in
    three_lines _ _ _ e0
    (e1 ∙ ap (λ lens. t0 ++ line (codes "shape") (listed (codes ",") (map decimal lens))) (lens-axes_from 0 view.shape view.strides count))
    (e2 ∙ ap (λ strides. t1 ++ line (codes "strides") (listed (codes ",") (map signed_decimal strides)))
    (strides-axes_from 0 view.shape view.strides count))
    (e3 ∙ ap (λ texts. t2 ++ line (codes "places") (listed (codes " ") texts)) (places_texts view places same))

unless_small : (step : ℕ) (fault : Option ErrorKind) (reply : Reply) → reply.status ≤ 2 → (unless step fault reply).status ≤ 2
unless_small step None reply small = small
unless_small step (Some kind) reply small = omega arith

reply_to_run_small : (fault : Option ErrorKind) (run : Outcome) → (reply_to_run fault run).status ≤ 2
reply_to_run_small None run = omega arith
reply_to_run_small (Some kind) run = omega arith

pub reply_to_script_small : (script : ScriptValue) → (reply_to_script script).status ≤ 2
reply_to_script_small script = unless_small 0 _ _ (reply_to_run_small _ _)
