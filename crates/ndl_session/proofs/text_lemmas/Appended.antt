-- What holds where an append succeeds.
use Rattle.std.proofs.Common.{◌≡◌, List, ◌++◌, Result, Ok, Err, OnOk, is_ok, if◌then◌else◌, ap, append_assoc, ◌∙◌}

-- a fact that follows of a list with more at its end, where the append returned Ok
pub where_appended : {A T E P : Type 0} (r : Result T E) (new old more : List A) → new ≡ (if is_ok r then old ++ more else old)
    → (new ≡ old ++ more → P) → OnOk r P
where_appended (Ok _) new old more e f = f e
where_appended (Err _) new old more e f = tt

-- four lists after a text, one after another
pub one_after_another : {A : Type 0} (text name first more end : List A)
    → (((text ++ name) ++ first) ++ more) ++ end ≡ text ++ (name ++ ((first ++ more) ++ end))
one_after_another text name first more end =
    ap (λ t. t ++ end) (append_assoc (text ++ name) first more)
    ∙ append_assoc (text ++ name) (first ++ more) end
    ∙ append_assoc text name ((first ++ more) ++ end)
