mod JournalApply
