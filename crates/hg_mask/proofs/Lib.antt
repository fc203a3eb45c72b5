mod MarksLemmas
