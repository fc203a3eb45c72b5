-- What reading a line comes to, by what its words are.
use Rattle.std.proofs.Common.{◌≡◌, ◌≢◌, ℕ, true, false, List, [], ◌∷◌, ◌++◌, Result, Ok, Err, OnOk, IfErr, refl, sym}
use Rattle.std.specs.List.{list_all}
use Rattle.hg_trace.specs.declared.line.Command.{Command}
use Rattle.hg_trace.specs.declared.line.Line.{Line}
use Rattle.hg_trace.specs.declared.fault.LineFault.{LineFault}
use Rattle.hg_trace.specs.declared.fault.LineFault.TheVariants as line_fault
use Rattle.hg_trace.specs.declared.fault.TraceFault.{TraceFault}
use Rattle.hg_trace.specs.declared.fault.TraceFault.TheVariants as trace_fault
use Rattle.hg_trace.specs.Lines.{is_allowed, before_comment, split_words}
use Rattle.hg_trace.specs.Labels.{repeats, with_label}
use Rattle.hg_trace.specs.Commands.{worker_of, command_at, words_at}
use Rattle.hg_trace.specs.Trace.{line_at, numbered}
use Rattle.hg_trace.specs.Reads.{Reads}

module _ (n : ℕ) (labels : List (List ℕ)) where
  pub no_words : numbered n (words_at labels []) ≡ Ok []
  unfolding words_at
  no_words = refl

  module _ (word : List ℕ) (words : List (List ℕ)) where
    pub no_worker : (fault : LineFault) → worker_of word ≡ Err fault → numbered n (words_at labels (word ∷ words)) ≡ Err (trace_fault.Line n fault)
    unfolding words_at
    no_worker fault e = rw e refl

    module _ (worker : ℕ) (works : worker_of word ≡ Ok worker) where
      pub no_command : (fault : LineFault) → command_at labels words ≡ Err fault → numbered n (words_at labels (word ∷ words)) ≡ Err (trace_fault.Line n fault)
      unfolding words_at
      no_command fault e = rw (works, e) refl

      module _ (command : Command) (means : command_at labels words ≡ Ok command) where
        repeated : repeats labels command ≡ true → numbered n (words_at labels (word ∷ words)) ≡ Err (trace_fault.Line n line_fault.RepeatedLabel)
        unfolding words_at
        repeated e = rw (works, means, e) refl

        fresh : repeats labels command ≡ false → numbered n (words_at labels (word ∷ words)) ≡ Ok (record { number = n; worker = worker; command = command } ∷ [])
        unfolding words_at
        fresh e = rw (works, means, e) refl

        -- what keeping the line does is what reading it has to
        pub reads_kept : (old new : List Line) (labels' : List (List ℕ)) (result : Result (Unit {0}) TraceFault)
            → OnOk result (repeats labels command ≡ false)
            → OnOk result (new ≡ old ++ record { number = n; worker = worker; command = command } ∷ [])
            → OnOk result (labels' ≡ with_label labels command)
            → IfErr result (λ fault. fault ≢ trace_fault.Memory → (repeats labels command ≡ true) × (fault ≡ trace_fault.Line n line_fault.RepeatedLabel))
            → Reads (numbered n (words_at labels (word ∷ words))) old new labels labels' result
        reads_kept old new labels' (Ok done) is_fresh kept labelled fails =
            (record { number = n; worker = worker; command = command } ∷ [], fresh is_fresh, kept, labelled)
        reads_kept old new labels' (Err fault) is_fresh kept labelled fails = λ other.
            let p = fails other in
            rw p.1 (repeated p.0)

  module _ (line : List ℕ) where
    pub line_words : (text : List ℕ) → list_all is_allowed text ≡ true → text ≡ before_comment line → line_at labels line ≡ words_at labels (split_words text)
    unfolding line_at
    line_words text allowed is = rw (sym is, allowed) refl

    pub no_text : list_all is_allowed (before_comment line) ≡ false → numbered n (line_at labels line) ≡ Err (trace_fault.Line n line_fault.Byte)
    unfolding line_at
    no_text e = rw e refl
