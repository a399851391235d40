-- Short mails, and what is printed of them.
use Rattle.std.specs.Prelude.{◌≡◌, ℕ, true, false, List, [], ◌∷◌, ◌++◌, length, map, Some, None, codes}
use Rattle.pm_message.specs.declared.renewal.Renew.TheVariants.{Keep, AddMissing, Sender, Date}
use Rattle.pm_meaning.specs.declared.command_line.CommandLine.{CommandLine}
use Rattle.explain_text.specs.declared.destination.Destination.TheVariants.{File, Folder, Program, Forward, Output}
use Rattle.explain_mails.specs.Compared.{goes_elsewhere}
use Rattle.explain_mails.specs.Lines.{right, mail_line, mail_heading, move_line, comparison}
use Rattle.explain_mails.specs.Names.{destination_name}
use Rattle.explain_mails.specs.Subjects.{subject_of, shortened, in_columns}
use Rattle.explain_mails.specs.Words.{words_of, words_with}
use Rattle.explain_mails.specs.Went.{Went}
use Rattle.explain_mails.specs.declared.outcome.Compared.{Compared}

-- The subject of a mail.
pub record OfSubjects : Type 0 where
  pub plain : subject_of (codes "From ann Thu\nFrom: ann\nSubject: one\n\nSubject: body\n") ≡ Some (codes "one")
  pub first : subject_of (codes "Subject: one\nSubject: two\n\n") ≡ Some (codes "one")
  pub capitals : subject_of (codes "SUBJECT:one\n\n") ≡ Some (codes "one")
  pub folded : subject_of (codes "Subject: a\n b\n\tc\nTo: ann\n\n") ≡ Some (codes "a  b  c")
  pub begins_on_second_line : subject_of (codes "Subject:\n a long one\n\n") ≡ Some (codes "a long one")
  pub control : subject_of (codes "Subject: a\tb\n\n") ≡ Some (codes "a b")
  pub empty : subject_of (codes "Subject:\n\n") ≡ Some []
  pub in_body : subject_of (codes "To: ann\n\nSubject: one\n") ≡ None
  pub other_name : subject_of (codes "Subjects: one\n\n") ≡ None
  pub short : shortened 3 (codes "ab") ≡ codes "ab"
  pub fits : shortened 3 (codes "abc") ≡ codes "abc"
  pub long : shortened 3 (codes "abcd") ≡ codes "abc"
  -- two characters of two bytes each
  pub characters : shortened 2 (195 ∷ 164 ∷ 195 ∷ 182 ∷ 195 ∷ 188 ∷ []) ≡ 195 ∷ 164 ∷ 195 ∷ 182 ∷ []
  pub columns : in_columns (codes "ab") ≡ codes "ab                                      "
  pub wide : length (in_columns (195 ∷ 164 ∷ [])) ≡ 41

-- where a mail goes
abbrev pub outcome : List (List ℕ) → ℕ → Went
outcome names status = record { names = names; status = status }

-- what it comes to by two rcfiles
abbrev pub compared : ℕ → List ℕ → Went → Went → Compared
compared number subject old new = record { number = number; subject = Some subject; old = old; new = new }

abbrev pub box : Went
box = outcome (codes "box" ∷ []) 0

abbrev pub copies : Went
copies = outcome (codes "box" ∷ codes "forward bob" ∷ []) 0

-- The lines of mails.
pub record OfLines : Type 0 where
  pub seventh : right 7 ≡ codes "     7"
  pub millions : right 1234567 ≡ codes "1234567"
  pub mailbox : mail_line 1 (Some (codes "one")) box ≡ codes "     1  Subject: one                              box, status 0\n"
  pub several : mail_line 12 None copies ≡ codes "    12  (no Subject)                              box, forward bob, status 0\n"
  pub nowhere : mail_line 1 (Some (codes "one")) (outcome [] 75) ≡ codes "     1  Subject: one                              nothing, status 75\n"
  pub odd_name : mail_line 1 (Some (codes "one")) (outcome (codes "a\tb" ∷ []) 0) ≡ codes "     1  Subject: one                              a b, status 0\n"
  pub names : map destination_name (File (codes "mbox") ∷ Folder (codes "md") ∷ Program (codes "x y") ∷ Forward (codes "bob eve") ∷ Output ∷ [])
      ≡ codes "mbox" ∷ codes "md" ∷ codes "| x y" ∷ codes "forward bob eve" ∷ codes "standard output" ∷ []
  pub heading : mail_heading 117 (Some (codes "[bug] crash")) ≡ codes "mail 117: Subject: [bug] crash\n"
  pub no_subject : mail_heading 117 None ≡ codes "mail 117: (no Subject)\n"

-- a mail that goes elsewhere, one whose copies come in another order, and one that ends with another status
abbrev pub moved : Compared
moved = compared 117 (codes "[bug] crash") (outcome (codes "rest" ∷ []) 0) (outcome (codes "bugs" ∷ codes "| taker" ∷ []) 0)

abbrev pub reordered : Compared
reordered = compared 2 (codes "two") copies (outcome (codes "forward bob" ∷ codes "box" ∷ []) 0)

abbrev pub kept : Compared
kept = compared 3 (codes "three") box (outcome [] 75)

-- Two rcfiles.
pub record OfComparisons : Type 0 where
  pub elsewhere : goes_elsewhere moved ≡ true
  pub order : goes_elsewhere reordered ≡ false
  pub status : goes_elsewhere (compared 3 (codes "three") box (outcome (codes "box" ∷ []) 1)) ≡ true
  pub copy : goes_elsewhere (compared 3 (codes "three") box copies) ≡ true
  pub twice : goes_elsewhere (compared 3 (codes "three") box (outcome (codes "box" ∷ codes "box" ∷ []) 0)) ≡ true
  pub line : move_line moved ≡ codes "   117  Subject: [bug] crash                      rest -> bugs, | taker\n"
  pub other_status : move_line kept ≡ codes "     3  Subject: three                            box, status 0 -> nothing, status 75\n"
  pub none : comparison false (reordered ∷ []) ≡ codes "0 of 1 mails go elsewhere.\n"
  pub no_mail : comparison false [] ≡ codes "0 of 0 mails go elsewhere.\n"
  pub one : comparison false (reordered ∷ moved ∷ [])
      ≡ codes "1 of 2 mails goes elsewhere:\n   117  Subject: [bug] crash                      rest -> bugs, | taker\n"
  pub quiet : comparison true (moved ∷ reordered ∷ kept ∷ []) ≡ codes "2 of 3 mails go elsewhere.\n"
  pub two : comparison false (kept ∷ moved ∷ [])
      ≡ codes "2 of 2 mails go elsewhere:\n     3  Subject: three                            box, status 0 -> nothing, status 75\n   117  Subject: [bug] crash                      rest -> bugs, | taker\n"

-- no option, and these rcfiles
abbrev pub rcfiles : List (List ℕ) → CommandLine
rcfiles names = record { filter = false; fails_softly = false; renew = AddMissing; arguments = []; values = []; rcfiles = names }

-- what comes before the variables and rcfiles
abbrev pub front : List (List ℕ)
front = codes "--" ∷ codes "LOGABSTRACT=all" ∷ codes "TRAP=procmail-explain" ∷ []

-- Words with another rcfile, in the folder `/w/x`.
pub record OfWords : Type 0 where
  pub own : words_with (rcfiles []) (codes "/w/x") (codes "new.rc") ≡ front ++ codes "/w/x/new.rc" ∷ []
  pub here : words_with (rcfiles (codes "./rc" ∷ [])) (codes "/w/x") (codes "new.rc") ≡ front ++ codes "./new.rc" ∷ []
  pub full : words_with (rcfiles (codes "/etc/rc" ∷ [])) (codes "/w/x") (codes "/n/rc") ≡ front ++ codes "/n/rc" ∷ []
  pub full_beside_here : words_with (rcfiles (codes "./rc" ∷ [])) (codes "/w/x") (codes "/n/rc") ≡ front ++ codes "./../..//n/rc" ∷ []
  pub last : words_with (rcfiles (codes "./a" ∷ codes "b" ∷ [])) (codes "/w/x") (codes "new.rc") ≡ front ++ codes "./a" ∷ codes "/w/x/new.rc" ∷ []
  pub options : words_with (record (rcfiles (codes "rc" ∷ [])) {
    filter = true;
    fails_softly = true;
    renew = Sender (codes "joe");
    arguments = codes "a" ∷ codes "-b" ∷ [];
    values = record { name = codes "X"; value = codes "1=2" } ∷ [];
  }) (codes "/w/x") (codes "new.rc")
      ≡ codes "-m" ∷ codes "-t" ∷ codes "-f" ∷ codes "joe" ∷ codes "-a" ∷ codes "a" ∷ codes "-a" ∷ codes "-b" ∷ front ++ codes "X=1=2"
      ∷ codes "/w/x/new.rc" ∷ []
  pub date : words_with (record (rcfiles []) { renew = Date }) (codes "/w/x") (codes "new.rc")
      ≡ codes "-f" ∷ codes "-" ∷ front ++ codes "/w/x/new.rc" ∷ []
  pub as_it_is : words_with (record (rcfiles (codes "rc" ∷ [])) { filter = true; renew = Keep }) (codes "/w/x") (codes "new.rc")
      ≡ codes "-m" ∷ front ++ codes "/w/x/new.rc" ∷ []
  pub same : words_of (rcfiles (codes "./a" ∷ codes "b" ∷ [])) ≡ front ++ codes "./a" ∷ codes "b" ∷ []
  pub same_own : words_of (rcfiles []) ≡ front
  pub same_options : words_of (record (rcfiles (codes "rc" ∷ [])) { filter = true; values = record { name = codes "TRAP"; value = codes "t" } ∷ [] })
      ≡ codes "-m" ∷ front ++ codes "TRAP=t" ∷ codes "rc" ∷ []
