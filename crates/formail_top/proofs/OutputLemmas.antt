-- The output for an input, put together.
use Rattle.std.proofs.Common.{◌≡◌, ◌<◌, ◌≤◌, ℕ, ℤ, suc, ◌+◌, ◌-◌, ◌||◌, Bool, true, false, inl, inr, List, [], ◌∷◌, ◌++◌, Option, None, arith, length, take, drop, get_or, refl, sym, ◌∙◌, ap, subst, append_assoc, drop-cons, drop-drop, take-add, take_all, length-drop}
use Rattle.std.proofs.lemmas.List.{append-nil}
use Rattle.std.proofs.lemmas.List.Folds.{concat-append}
use Rattle.std.specs.List.{flat_map, concat}
use Rattle.pm_host.specs.Told.{HostView}
use Rattle.pm_message.specs.Split.{split_of}
use Rattle.formail_edit.specs.Output.{edited}
use Rattle.formail_edit.specs.Sender.{sender_for, line_at}
use Rattle.formail_split.specs.Parts.{first_of, after_last_of, selected, parts_of}
use Rattle.formail_top.specs.Outputs.{kept_of, mails_of, sender_of_output, is_line_due, wants_moment, output_of, outputs_of}
use Rattle.formail_top.specs.Run.{AsksIf, AsksAtMost, IsOutput}
use Rattle.formail_top.specs.declared.request.Request.{Request}

-- what stands between the two places are the mails that are wanted
pub are_selected : (all : List (List ℕ)) (skip : ℕ) (total : Option ℕ) (parts : List (List ℕ)) (first last : ℕ) → all ≡ parts → first ≡ first_of (length all) skip → last ≡ after_last_of (length all) skip total → take (last - first) (drop first all) ≡ selected skip total parts
are_selected all skip total parts first last are first_is last_is =
    subst (λ t. take (last - first) (drop first all) ≡ selected skip total t) are
    (subst (λ f. take (last - f) (drop f all) ≡ selected skip total all) (sym first_is)
    (subst (λ l. take (l - first_of (length all) skip) (drop (first_of (length all) skip) all) ≡ selected skip total all) (sym last_is) refl))

-- no mail is kept where none is left
pub none_left : (front : List (List ℕ)) (kept : List Bool) (rest : List (List ℕ)) → length rest < 1 → front ++ kept_of kept rest ≡ front
none_left front [] rest short = append-nil front
none_left front (k ∷ kept) [] short = append-nil front
none_left front (k ∷ kept) (r ∷ rest) short = absurd (omega (arith, short))

-- two texts more
pub two_more : (texts : List (List ℕ)) (front rest : List ℕ) → concat ((texts ++ front ∷ []) ++ rest ∷ []) ≡ concat texts ++ (front ++ rest)
two_more texts front rest =
    concat-append (texts ++ front ∷ []) (rest ∷ []) ∙ ap (λ l. l ++ concat (rest ∷ [])) (concat-append texts (front ∷ []))
    ∙ append_assoc (concat texts) (concat (front ∷ [])) (concat (rest ∷ []))
    ∙ ap (λ l. concat texts ++ l) (ap (λ l. l ++ concat (rest ∷ [])) (append-nil front) ∙ ap (λ l. front ++ l) (append-nil rest))

-- one mail's output more, in two parts
pub one_output : (f : List ℕ → List ℕ) (mails texts : List (List ℕ)) (i : ℕ) (mail front rest : List ℕ) → i < length mails → mail ≡ get_or mails i mail → front ++ rest ≡ f mail
    → concat texts ++ flat_map f (drop i mails) ≡ flat_map f mails
    → concat ((texts ++ front ∷ []) ++ rest ∷ []) ++ flat_map f (drop (i + 1) mails) ≡ flat_map f mails
one_output f mails texts i mail front rest less is out so_far =
    let next : i + 1 ≡ suc i = omega arith in
    let more = flat_map f (drop (i + 1) mails) in
    let here : f mail ++ more ≡ flat_map f (drop i mails) =
    ap (λ m. f m ++ more) is ∙ ap (λ n. f (get_or mails i mail) ++ flat_map f (drop n mails)) next ∙ sym (ap (flat_map f) (drop-cons mails i mail less)) in
    ap (λ l. l ++ more) (two_more texts front rest ∙ ap (λ l. concat texts ++ l) out) ∙ append_assoc (concat texts) (f mail) more
    ∙ ap (λ l. concat texts ++ l) here ∙ so_far

-- what is before a place of the mailbox is its own output, and asks for no moment
pub record IsFront (request : Request) (mailbox : List ℕ) (front : ℕ) : Type 0 where
  pub within : front ≤ length mailbox
  pub outputs : (moment : ℤ) → outputs_of request moment (parts_of mailbox) ≡ take front mailbox ++ outputs_of request moment (parts_of (drop front mailbox))
  pub wants : wants_moment request (parts_of mailbox) ≡ wants_moment request (parts_of (drop front mailbox))

pub no_front : (request : Request) (mailbox : List ℕ) → IsFront request mailbox 0
no_front request mailbox = record { within = omega arith; outputs = λ moment. refl; wants = refl }

-- one mail more at the front that is its own output
pub front_on : (request : Request) (mailbox rest mail : List ℕ) (front n : ℕ) → request.reply ≡ false → IsFront request mailbox front
    → rest ≡ drop front mailbox → front < length mailbox → n ≤ length rest → parts_of rest ≡ take n rest ∷ parts_of (drop n rest)
    → mail ≡ take (front + n - front) (drop front mailbox)
    → ((moment : ℤ) → edited (split_of mail) request.edits (line_at moment (split_of mail) request.edits) ≡ mail)
    → sender_for (split_of mail) request.edits ≡ None → IsFront request mailbox (front + n)
front_on request mailbox rest mail front n reply before rest_is less fits first is same none =
    let left = drop front mailbox in
    let size : front + n - front ≡ n = omega arith in
    let own : mail ≡ take n left = is ∙ ap (λ k. take k left) size in
    let cut : parts_of left ≡ mail ∷ parts_of (drop n left) = subst (λ r. parts_of r ≡ take n r ∷ parts_of (drop n r)) rest_is first ∙ ap (λ t. t ∷ parts_of (drop n left)) (sym own) in
    let behind : drop n left ≡ drop (front + n) mailbox = drop-drop n front mailbox in
    let grown : take front mailbox ++ mail ≡ take (front + n) mailbox = ap (λ t. take front mailbox ++ t) own ∙ sym (take-add front n mailbox) in
    record {
      within = omega (arith, fits, ap length rest_is, length-drop front mailbox);
      outputs = λ moment.
          let one : output_of request moment mail ≡ mail = rw reply (same moment) in
          before.outputs moment
          ∙ ap (λ t. take front mailbox ++ t) (ap (outputs_of request moment) cut ∙ ap (λ t. t ++ outputs_of request moment (parts_of (drop n left))) one)
          ∙ sym (append_assoc (take front mailbox) mail (outputs_of request moment (parts_of (drop n left))))
          ∙ ap (λ t. t ++ outputs_of request moment (parts_of (drop n left))) grown
          ∙ ap (λ r. take (front + n) mailbox ++ outputs_of request moment (parts_of r)) behind;
      wants =
          let sender : sender_of_output request mail ≡ None = rw reply none in
          let quiet : is_line_due (sender_of_output request mail) ≡ false = ap is_line_due sender in
          before.wants ∙ ap (wants_moment request) cut ∙ ap (λ b. b || wants_moment request (parts_of (drop n left))) quiet
          ∙ ap (λ r. wants_moment request (parts_of r)) behind;
    }

-- what is after a place
pub slice_rest : (bytes : List ℕ) (start : ℕ) → take (length bytes - start) (drop start bytes) ≡ drop start bytes
slice_rest bytes start = take_all (length bytes - start) (drop start bytes) (omega (arith, length-drop start bytes))

-- the output of a mailbox is its front, and the output of what is after it
pub front_output : (request : Request) (mailbox before rest text : List ℕ) (front : ℕ) (host host' : HostView)
    → ((bytes : List ℕ) → mails_of request bytes ≡ parts_of bytes) → IsFront request mailbox front
    → before ≡ take (front - 0) (drop 0 mailbox) → rest ≡ take (length mailbox - front) (drop front mailbox)
    → IsOutput request (mails_of request rest) text host host' → IsOutput request (mails_of request mailbox) (before ++ text) host host'
front_output request mailbox before rest text front host host' all is before_is rest_is output =
    let size : front - 0 ≡ front = omega arith in
    let own : before ≡ take front mailbox = before_is ∙ ap (λ k. take k mailbox) size in
    let behind : rest ≡ drop front mailbox = rest_is ∙ slice_rest mailbox front in
    let mails : mails_of request rest ≡ parts_of (drop front mailbox) = all rest ∙ ap parts_of behind in
    let wants : wants_moment request (mails_of request rest) ≡ wants_moment request (mails_of request mailbox) =
    ap (wants_moment request) mails ∙ sym is.wants ∙ ap (wants_moment request) (sym (all mailbox)) in
    record {
      moment = output.moment;
      asks = subst (λ b. AsksIf b output.moment host host') wants output.asks;
      outputs = ap (λ t. before ++ t) (output.outputs ∙ ap (outputs_of request output.moment) mails)
          ∙ ap (λ t. t ++ outputs_of request output.moment (parts_of (drop front mailbox))) own
          ∙ sym (is.outputs output.moment) ∙ ap (outputs_of request output.moment) (sym (all mailbox));
    }

-- where the moment was asked for or not, the host took at most that call
pub asked_at_most : (wants : Bool) (moment : ℤ) (before after : HostView) → AsksIf wants moment before after → AsksAtMost before after
asked_at_most true moment before after asks = inr (moment, asks)
asked_at_most false moment before after same = inl same
